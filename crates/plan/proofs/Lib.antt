-- The laws of `plan`, for the proofs of this crate and of those that link it.
pub mod Tokens
pub mod Laws
pub mod Stages
pub mod Good
pub mod Reading
