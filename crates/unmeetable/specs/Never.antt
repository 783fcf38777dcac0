-- What the theorems of proofs/Never are said in. Assumes nothing.
use Rattle.std.specs.Prelude.{◌≡◌, List, ℕ}
use Rattle.clock.specs.Clock.{no_limit}
use Rattle.book.specs.Rules.{Atom, Rule}
use Rattle.lines.specs.declared.Token.{Token}
use Rattle.claims.specs.Papers.{On}

-- "A trigger token is any token on the trigger's timeline with its value"; a rule without trigger has none
pub record Triggers (lines : ℕ → List Token) (r : Rule Atom) (t : Token) : Type 0 where
  pub line : (r.variable ≡ no_limit → ⊥) → On (lines r.variable) t
  pub value : (r.variable ≡ no_limit → ⊥) → t.value ≡ r.value
