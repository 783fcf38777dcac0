-- The definitions that the contracts of `marks` cite.
pub mod Marked
