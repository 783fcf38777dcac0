-- The definitions that the contracts of `reader` cite, and the claims on a reader, a plan's edition and its jobs.
pub mod Opening
pub mod Claims
pub mod Editions
pub mod Jobs
