-- The laws of `writing`, for the proofs of this crate and of those that link it.
pub mod Compare
pub mod Left
pub mod Whole
pub mod Writing
