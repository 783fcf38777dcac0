-- The laws of `closing`, for the proofs of this crate and of those that link it.
pub mod Left
pub mod Joined
pub mod Whole
