-- The laws of `events_written`, for the proofs of this crate and of those that link it.
pub mod Written
