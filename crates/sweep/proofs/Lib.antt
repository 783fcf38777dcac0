-- The laws of `sweep`, for its own proofs and for what sweeps.
pub mod Steps
pub mod Ranks
pub mod At
pub mod Sweeping
