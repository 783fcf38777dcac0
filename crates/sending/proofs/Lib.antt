-- The laws of `sending`.
pub mod Laws
