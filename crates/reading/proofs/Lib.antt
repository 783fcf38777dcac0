-- The laws of `reading`.
pub mod Laws
pub mod Whole
