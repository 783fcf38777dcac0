-- The definitions that the contracts of `clock` cite.
pub mod Clock
