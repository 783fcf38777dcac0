-- The definitions that the contracts of `listed` cite.
pub mod Ready
