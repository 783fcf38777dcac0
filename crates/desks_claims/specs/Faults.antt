-- What the theorems of proofs/Faults are said in. Assumes nothing.
use Rattle.std.specs.Prelude.{◌≡◌, List, ℕ, ◌<◌, length, get_or}
use Rattle.words.specs.Words.{word}
use Rattle.book.specs.Rules.{Rule}
use Rattle.verdict.specs.Judged.{no_rule}

-- ---- what is claimed

-- "only its own rules; rule numbers are those of the whole book": the desk's rules before number a are satisfied, and a, its own, isn't, first at
-- trigger token c
pub record FirstOwn {C : Type 0} (desks : List ℕ) (desk : ℕ) (rules : List (Rule C)) (Satisfied : Rule C → Type 0)
    (FailsAt : Rule C → ℕ → Type 0) (a c : ℕ) : Type 0 where
  pub below : a < length rules
  pub own : word desks a ≡ desk
  pub before : (k : ℕ) → k < a → word desks k ≡ desk → Satisfied (get_or rules k no_rule)
  pub fails : FailsAt (get_or rules a no_rule) c
