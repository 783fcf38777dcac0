-- What is promised of books that speak only of order. InProfile: which books those are, and that every translated book is one. Plans: two plans
-- whose endpoints stand in the same order get the same answer. The other files are the laws that these rest on.
pub mod Pairs
pub mod Alike
pub mod InProfile
pub mod Plans
pub mod Ranked
pub mod Specimens
