-- The laws of `composition`, for the proofs of this crate and of those that link it: its rule (Rule), its algebra (Algebra).
pub mod Sets
pub mod Ranks
pub mod Rule
pub mod Algebra
