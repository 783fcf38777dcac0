-- The laws of `records`, for the proofs of those that link it.
pub mod Words
