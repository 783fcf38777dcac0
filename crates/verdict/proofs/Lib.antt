-- What is proved of the judge's definitions, and what the proofs of several functions use.
pub mod Passed
pub mod Steps
pub mod Few
pub mod Stages
pub mod Typed
