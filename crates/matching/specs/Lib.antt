-- The definitions that the contracts of `matching` cite.
pub mod Search
pub mod Searched
pub mod Carried
