-- The laws behind the proofs of `reader`.
pub mod Opening
pub mod Claims
pub mod Editions
pub mod Jobs
