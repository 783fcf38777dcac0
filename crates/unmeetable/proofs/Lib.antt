-- The laws of `unmeetable`, for the proofs of this crate and of those that link it.
pub mod Answers
pub mod Never
pub mod Cases
