-- What the proofs of several functions use, and the laws of kept marks.
pub mod Fresh
pub mod Placing
pub mod Carrying
