-- The definitions that the contracts of `writing` cite: the book that a sheet becomes (Book), and how it is written.
pub mod Book
pub mod Compare
pub mod Left
pub mod Whole
pub mod Writing
