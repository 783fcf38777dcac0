-- What the proofs of `translator` use.
mod Outcome
