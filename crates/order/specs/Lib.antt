-- The definitions that the contracts of `order` cite.
pub mod Profile
pub mod Ranked
pub mod Judged
pub mod Numbered
