-- The laws of `earliest`, for its own proofs and for the claims.
pub mod Filling
pub mod Decoding
pub mod Showing
pub mod Answering
pub mod Owning
