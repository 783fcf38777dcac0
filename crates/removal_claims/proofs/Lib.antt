-- The laws of `removal_claims`, for the proofs of this crate and of those that link it.
pub mod Rebuilt
pub mod Removed
pub mod Answers
pub mod Unchanged
pub mod Specimens
pub mod Easing
