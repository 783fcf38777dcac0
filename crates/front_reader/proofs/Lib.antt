-- The laws of `front_reader`, for the proofs of this crate and of those that link it.
pub mod Stepped
