-- The laws of `narrowing_claims`, for the proofs of this crate and of those that link it.
pub mod Composition
pub mod Kept
pub mod Order
pub mod Answers
pub mod Specimens
pub mod Examples
