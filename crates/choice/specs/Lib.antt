-- The definitions that the contracts of `choice` cite, and what they mean.
pub mod Met
pub mod Exists
pub mod Asked
