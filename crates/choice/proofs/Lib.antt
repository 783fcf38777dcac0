-- What the proofs of several functions use, and the laws of choices.
pub mod Laws
pub mod SoFar
pub mod Exists
pub mod Typed
