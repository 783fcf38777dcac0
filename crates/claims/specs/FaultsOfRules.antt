-- What the theorems of proofs/FaultsOfRules are said in. Assumes nothing.
use Rattle.std.specs.Prelude.{List, ℕ, ◌<◌, length, get_or}
use Rattle.book.specs.Rules.{Rule}
use Rattle.verdict.specs.Judged.{no_rule}

-- "Then come rules in order": the rules before number a are satisfied, and it isn't, first at trigger token c. Fails of RulesMet says where
-- a rule fails
pub record FirstRule {C : Type 0} (rules : List (Rule C)) (Satisfied : Rule C → Type 0) (FailsAt : Rule C → ℕ → Type 0) (a c : ℕ) : Type 0 where
  pub below : a < length rules
  pub before : (k : ℕ) → k < a → Satisfied (get_or rules k no_rule)
  pub fails : FailsAt (get_or rules a no_rule) c
