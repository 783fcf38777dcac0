-- The laws of `sink`, for the proofs of this crate and of those that link it.
pub mod Lists
pub mod Sends
