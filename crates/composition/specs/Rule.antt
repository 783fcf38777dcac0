-- The rule of the composition table: what three stretches show; and what those with small ends show, to test the table by. Assumes nothing.
use Rattle.std.specs.Prelude.{◌≡◌, ℕ, ◌^◌, ◌<◌, eqb}
use Rattle.allen.specs.Relation.{relation_of}
use Rattle.composition.specs.Sets.{down, unions, given}

-- "three stretches of positive length exist that show it": the first is in relation p to the second, that in q to the third, and the first in r
-- to the third
pub record Show (p q r : ℕ) : Type 0 where
  pub s : ℕ
  pub e : ℕ
  pub s' : ℕ
  pub e' : ℕ
  pub s'' : ℕ
  pub e'' : ℕ
  pub first : s < e
  pub second : s' < e'
  pub third : s'' < e''
  pub left : relation_of s e s' e' ≡ p
  pub right : relation_of s' e' s'' e'' ≡ q
  pub across : relation_of s e s'' e'' ≡ r

-- the union over all stretches with ends below 6
unfoldable pub stretches : (ℕ → ℕ → ℕ) → ℕ
stretches f = unions (λ e. unions (λ s. f s e) (down e)) (down 6)

-- what three stretches with ends below 6 show
unfoldable pub shown : ℕ → ℕ → ℕ
shown p q =
    stretches (λ s e. stretches (λ s' e'. given (eqb (relation_of s e s' e') p)
    (stretches (λ s'' e''. given (eqb (relation_of s' e' s'' e'') q) (2 ^ relation_of s e s'' e'')))))
