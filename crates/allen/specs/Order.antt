-- The three-way order of two ends, by which the code finds a relation. Assumes nothing.
use Rattle.std.specs.Prelude.{◌≡◌, true, cond, ◌||◌, ℕ, ◌<◌, ltb, eqb}
use Rattle.allen.specs.Relation.{relation_of}

-- 0 less, 1 equal, 2 greater
unfoldable pub order_of : ℕ → ℕ → ℕ
order_of a b = cond (ltb a b) 0 (cond (eqb a b) 1 2)

-- r is the relation of two stretches if left ends after right starts, which 10 and 11 say by themselves
pub record Across (s e s' e' r : ℕ) : Type 0 where
  pub is : s' < e → r ≡ relation_of s e s' e'
  pub sure : (eqb r 10 || eqb r 11) ≡ true → s' < e
