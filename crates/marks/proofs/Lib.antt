-- The laws of the marks, for the proofs of this crate and of those that link it.
pub mod Lines
pub mod Sides
pub mod Relations
pub mod Choices
pub mod Marks
