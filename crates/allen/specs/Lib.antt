-- The definitions that the contract of `allen` cites, and the theorems on relations.
pub mod Relation
pub mod Order
pub mod Atoms
pub mod One
