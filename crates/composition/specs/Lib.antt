-- The definitions that the contracts of `composition` cite, and the rule that its table has to meet.
pub mod Sets
pub mod Table
pub mod Rule
