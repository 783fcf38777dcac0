-- The laws of `answers`, for the proofs of this crate and of those that link it.
pub mod OneCase
pub mod Stages
