-- The laws of `order`, for its own proofs and for the claims.
pub mod Atoms
pub mod Numbers
pub mod Ranking
pub mod Good
pub mod Stages
