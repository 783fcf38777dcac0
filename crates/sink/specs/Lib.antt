-- The definitions that the contracts of `sink` cite.
pub mod Sinks
