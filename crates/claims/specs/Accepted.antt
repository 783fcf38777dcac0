-- What the theorems of proofs/Accepted are said in. Assumes nothing.
use Rattle.std.specs.Prelude.{◌≡◌, List, [], ◌∷◌, ℕ, ◌+◌}
use Rattle.words.specs.Lists.{All}
use Rattle.clock.specs.Clock.{no_limit}
use Rattle.book.specs.Rules.{Rule, rules_of, variables_of}
use Rattle.book.specs.Encode.{atoms, constraints}
use Rattle.book.specs.Sound.{Sound}
use Rattle.lines.specs.declared.Token.{Token}
use Rattle.lines.specs.Lines.{line_of}
use Rattle.claims.specs.Papers.{Plan, SatisfiedIn, Satisfies}
use Rattle.claims.specs.Sheets.{SheetSatisfies}
use Rattle.claims.specs.Wrongs.{Tables}

-- ---- what is claimed

-- "π is a solution plan": the words say a book (edition e is 1) or sheet (2) and a plan, whose timelines are over the book's state variables
-- (001, Definitions 1, 2 and 4), and "π ⊨ R for all synchronisation rules R" (000, Definition 2.13)
pub record Solution {C : Type 0} (e : ℕ) (b p : List ℕ) (rules : List (Rule C)) (Satisfied : Rule C → Type 0) : Type 0 where
  pub book : Sound e b
  pub tables : Tables b p
  pub plan : Plan (variables_of b) (line_of p)
  pub satisfied : All Satisfied rules

-- by a book
abbrev pub Accepted : List ℕ → List ℕ → Type 0
Accepted b p = Solution 1 b p (rules_of atoms b) (Satisfies (SatisfiedIn (line_of p)) (line_of p))

-- by a sheet, "with constraints in place of atoms"
abbrev pub SheetAccepted : List ℕ → List ℕ → Type 0
SheetAccepted s p = Solution 2 s p (rules_of constraints s) (SheetSatisfies (line_of p))

-- so many tokens of a timeline have the value v
pub data Having (v : ℕ) : List Token → ℕ → Type 0 where
  none : Having v [] 0
  one : {t : Token} {line : List Token} {n : ℕ} → t.value ≡ v → Having v line n → Having v (t ∷ line) (1 + n)
  other : {t : Token} {line : List Token} {n : ℕ} → (t.value ≡ v → ⊥) → Having v line n → Having v (t ∷ line) n

-- "trigger tokens examined over all rules, a rule without trigger counting 1": the sum over the rules of how many tokens on the trigger's
-- timeline have its value
pub data Examined {C : Type 0} (lines : ℕ → List Token) : List (Rule C) → ℕ → Type 0 where
  none : Examined lines [] 0
  triggered : {r : Rule C} {rules : List (Rule C)} {k n : ℕ} → (r.variable ≡ no_limit → ⊥) → Having r.value (lines r.variable) k
      → Examined lines rules n → Examined lines (r ∷ rules) (k + n)
  triggerless : {r : Rule C} {rules : List (Rule C)} {n : ℕ} → r.variable ≡ no_limit → Examined lines rules n → Examined lines (r ∷ rules) (1 + n)
