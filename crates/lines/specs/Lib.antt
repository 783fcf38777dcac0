-- The definitions that the contracts of `lines` cite, and what theorems about a plan's header and a reader are said in.
pub mod Lines
pub mod Ends
pub mod Fault
pub mod Good
pub mod Walk
pub mod Reading
