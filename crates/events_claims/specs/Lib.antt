-- The claims of L6: reading undoes writing (Round), which answer is given when (Answers), what a list says and how long it is (Meaning); the papers'
-- event sequences (Sequences), rule graphs and their matching (Graphs), that a plan's events are such a sequence (Closed, over Times and Tokens), and
-- Lemma 4.6 (Rules, over Lemma); the specimens, and an input for each claim (Examples).
pub mod Answers
pub mod Meaning
pub mod Sequences
pub mod Graphs
pub mod Times
pub mod Tokens
pub mod Lemma
pub mod Rules
pub mod Specimens
pub mod Examples
