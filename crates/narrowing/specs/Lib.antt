-- The definitions that the contracts of `narrowing` cite: the first table (First), cutting it by composition (Narrowed), the tokens of an
-- alternative and the answer (Sheet); Passes and Lent have what the functions inside say to each other.
pub mod First
pub mod Narrowed
pub mod Sheet
pub mod Passes
pub mod Lent
