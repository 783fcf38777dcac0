-- The laws of `events_read`.
pub mod Read
