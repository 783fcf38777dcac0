-- The definitions that the contracts of `words` cite, and the laws that every crate above uses.
pub mod Lists
pub mod Least
pub mod Words
pub mod Runs
pub mod Write
pub mod Bytes
