-- The laws of `removal`, for the proofs of this crate and of those that link it.
pub mod Kept
pub mod Rising
pub mod Desks
pub mod Outcome
