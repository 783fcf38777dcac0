-- The definitions that the contracts of `verdict` cite.
pub mod Judged
pub mod Survey
