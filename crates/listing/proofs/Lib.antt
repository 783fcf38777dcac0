-- The laws of `listing`, for the proofs of this crate and of those that link it.
pub mod Going
pub mod Items
pub mod Making
pub mod Bridge
pub mod Sheet
