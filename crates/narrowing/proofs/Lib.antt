-- The laws of `narrowing`, for the proofs of this crate and of those that link it: Steps and Ends say that what comes out is the greatest
-- table that composition cuts no further, Stand that no relation is lost in which tokens stand.
pub mod Places
pub mod Tables
pub mod Steps
pub mod Ends
pub mod Stand
pub mod Sheets
