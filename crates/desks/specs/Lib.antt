-- The definitions that the contracts of `desks` cite.
pub mod List
pub mod Own
