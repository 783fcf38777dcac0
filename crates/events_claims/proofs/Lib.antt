-- The laws of `events_claims`, for the proofs of this crate and of those that link it.
pub mod Answers
pub mod Round
pub mod Meaning
pub mod Times
pub mod Tokens
pub mod Closed
pub mod Lemma
pub mod Rules
pub mod Specimens
pub mod Examples
