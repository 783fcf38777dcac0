-- The definitions that the contracts of `events_read` cite.
pub mod Found
