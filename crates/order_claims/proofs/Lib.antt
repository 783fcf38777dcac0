-- The laws of `order_claims`, for the proofs of this crate and of those that link it.
pub mod Pairs
pub mod Bounds
pub mod Alike
pub mod InProfile
pub mod Plans
pub mod Ranked
pub mod Answers
pub mod Specimens
