-- The laws of `lines`, for the proofs of this crate and of those that link it.
pub mod Width
pub mod Laws
pub mod Ends
pub mod Head
pub mod Stages
pub mod Steps
pub mod Reading
