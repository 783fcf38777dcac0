-- What the proofs of several functions use.
pub mod Lists
pub mod Own
pub mod Stages
