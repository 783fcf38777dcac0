-- What the theorems of proofs/RulesMet are said in. Assumes nothing.
use Rattle.std.specs.Prelude.{◌≡◌, Bool, true, false, ◌↔◌, List, ℕ, ◌<◌, length}
use Rattle.clock.specs.Clock.{no_limit}
use Rattle.book.specs.Rules.{Rule}
use Rattle.lines.specs.declared.Token.{Token}
use Rattle.choice.specs.Met.{Choice, nobody}
use Rattle.verdict.specs.Judged.{first_unmet, rule_unmet}
use Rattle.claims.specs.Papers.{token_of}

-- ---- what is claimed

module _ {C : Type 0} (lines : ℕ → List Token) (rule : Rule C) (Met : Token → Type 0) where
  -- the rule isn't satisfied, first at trigger token c: "rule, trigger token; 0 without trigger"
  pub data Fails : ℕ → Type 0 where
    triggered : (c : ℕ) → (rule.variable ≡ no_limit → ⊥)
        → c < length (lines rule.variable)
        → (token_of (lines rule.variable) c).value ≡ rule.value
        → (Met (token_of (lines rule.variable) c) → ⊥)
        → ((i : ℕ) → i < c → (token_of (lines rule.variable) i).value ≡ rule.value → Met (token_of (lines rule.variable) i))
        → Fails c
    triggerless : rule.variable ≡ no_limit → (Met nobody → ⊥) → Fails 0

-- the judge's test of a rule settles whether it is satisfied, and where it fails
pub record Settles {C : Type 0} (holds : Choice → C → Bool) (lines : ℕ → List Token) (r : Rule C) (Satisfied : Type 0) (FailsAt : ℕ → Type 0) : Type 0 where
  pub satisfied : (rule_unmet holds lines r ≡ false) ↔ Satisfied
  pub fails : (c : ℕ) → ((rule_unmet holds lines r ≡ true) × (first_unmet holds lines r ≡ c)) ↔ FailsAt c
