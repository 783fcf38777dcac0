-- Two stretches that have a length stand in exactly one of Allen's relations, and the converse table turns left and right round. Each of the
-- thirteen ways in which the four ends can lie is that of a sample with small ends, for which all is computed. Assumes nothing.
use Rattle.std.specs.Prelude.{◌≡◌, ℕ, ltb, eqb}

-- the ends of s..e and s'..e' lie to each other as those of a..b and a'..b' do
pub record Like (s e s' e' a b a' b' : ℕ) : Type 0 where
  pub before : ltb e s' ≡ ltb b a'
  pub meets : eqb e s' ≡ eqb b a'
  pub after : ltb e' s ≡ ltb b' a
  pub met : eqb e' s ≡ eqb b' a
  pub into : ltb s' e ≡ ltb a' b
  pub onto : ltb s e' ≡ ltb a b'
  pub starts : ltb s s' ≡ ltb a a'
  pub started : ltb s' s ≡ ltb a' a
  pub level : eqb s s' ≡ eqb a a'
  pub levelled : eqb s' s ≡ eqb a' a
  pub ends : ltb e e' ≡ ltb b b'
  pub ended : ltb e' e ≡ ltb b' b
  pub flush : eqb e e' ≡ eqb b b'
  pub flushed : eqb e' e ≡ eqb b' b
