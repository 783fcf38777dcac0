-- The definitions that the contracts of `moments` cite.
pub mod State
