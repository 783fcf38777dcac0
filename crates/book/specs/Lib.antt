-- The definitions that the contracts of `book` cite, and what theorems about books are said in.
pub mod Fault
pub mod Sound
pub mod Rules
pub mod Encode
