-- What the proofs of `allen` use.
mod Laws
pub mod One
