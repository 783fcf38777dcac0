-- The definitions that the contracts of `translator` cite.
pub mod Translation
pub mod Outcome
