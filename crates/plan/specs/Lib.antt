-- The definitions that the contracts of `plan` cite, and what theorems about plans are said in.
pub mod Fault
pub mod Judge
pub mod Good
