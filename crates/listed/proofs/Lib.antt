-- The laws of `listed`, for the proofs of this crate and of those that link it.
pub mod Laws
pub mod Outcome
