-- The laws of `desks_claims`, for the proofs of this crate and of those that link it.
pub mod Accepted
pub mod Faults
pub mod Undivided
pub mod Undisturbed
pub mod Easing
pub mod Specimens
pub mod Examples
pub mod EasingExamples
pub mod Numbering
pub mod FirstUnmet
pub mod EasingLaws
pub mod Removed
pub mod Removing
