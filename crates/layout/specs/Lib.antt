-- The definitions that the contracts of `layout` cite.
pub mod Layout
pub mod Fault
pub mod Owner
