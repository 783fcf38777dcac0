-- What the theorems of proofs/SamePlan are said in. Assumes nothing.
use Rattle.std.specs.Prelude.{◌≡◌, List, ℕ, ◌+◌, ◌<◌}
use Rattle.words.specs.Words.{word}
use Rattle.layout.specs.Layout.{count, values_of}
use Rattle.plan.specs.Fault.{value_place}

-- two books have the same variables, with the same values: the words of each value, of those that its variable has, are the same
pub record SameVariables (b c : List ℕ) : Type 0 where
  pub variables : count b 0 ≡ count c 0
  pub values : (v : ℕ) → v < count b 0 → values_of 1 b v ≡ values_of 1 c v
  pub value : (v x : ℕ) → v < count b 0 → x < values_of 1 b v → (j : ℕ) → j < 3 → word b (value_place b v x + j) ≡ word c (value_place c v x + j)
