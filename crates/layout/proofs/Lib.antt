-- The laws of `layout`, for the proofs of this crate and of those that link it.
pub mod Tests
pub mod Owner
pub mod Bounds
pub mod Order
