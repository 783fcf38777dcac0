-- The laws of `events`, for the proofs of this crate and of those that link it.
pub mod Back
pub mod Passes
pub mod Plans
pub mod Timed
pub mod Good
pub mod Round
pub mod Sends
pub mod Again
pub mod Moments
pub mod Size
