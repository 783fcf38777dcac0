-- The laws of a raised table and of its times, for the proofs of this crate and of those that link it.
pub mod Raising
pub mod Timing
