-- The definitions that the contracts of `listing` cite: what a sheet becomes (Expand), and its choices as numbers.
pub mod Expand
pub mod Items
pub mod Listed
