-- The laws of `moments`, for the proofs of this crate and of those that link it.
pub mod Laws
