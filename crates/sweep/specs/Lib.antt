-- The definitions that the contracts of `sweep` cite.
pub mod Stands
pub mod Ranks
pub mod Sweeps
