-- The definitions that the contracts of `removal` cite.
pub mod Removed
pub mod Removal
pub mod Left
