-- The judge's answer: this fault, or else that one, down to the count. Assumes nothing.
use Rattle.std.specs.Prelude.{Bool, ◌&&◌, ◌||◌, not, cond, List, [], ◌∷◌, ℕ, ◌+◌, ltb, eqb, length, get_or}
use Rattle.answers.specs.declared.Numbers.{Numbers}
use Rattle.answers.specs.Numbers.{numbers, or_else}
use Rattle.words.specs.Least.{first}
use Rattle.clock.specs.Clock.{no_limit}
use Rattle.book.specs.Rules.{Rule, rules_of}
use Rattle.book.specs.Encode.{atoms, constraints}
use Rattle.book.specs.Fault.{book_fault}
use Rattle.lines.specs.declared.Token.{Token}
use Rattle.lines.specs.Lines.{line_of}
use Rattle.plan.specs.Fault.{plan_fault}
use Rattle.choice.specs.Met.{Choice, nobody, atom_holds, constraint_holds, met}

abbrev pub no_rule : {C : Type 0} → Rule C
no_rule = record { variable = 0; value = 0; alternatives = [] }

-- "Trigger variable N means no trigger"
abbrev pub untriggered : {C : Type 0} → Rule C → Bool
untriggered r = eqb r.variable no_limit

-- how many elements a test holds of
unfoldable pub counted : {A : Type 0} → (A → Bool) → List A → ℕ
counted p [] = 0
counted p (x ∷ xs) = cond (p x) 1 0 + counted p xs

module _ {C : Type 0} (lines : ℕ → List Token) where
  -- the tokens among which a rule's trigger tokens are: its trigger's timeline; without a trigger there is one that nobody is
  unfoldable pub trigger_line : Rule C → List Token
  trigger_line r = cond (untriggered r) (nobody ∷ []) (lines r.variable)

  -- "A trigger token is any token on the trigger's timeline with its value"
  unfoldable pub is_trigger : Rule C → Token → Bool
  is_trigger r t = untriggered r || eqb t.value r.value

  -- "trigger tokens examined over all rules, a rule without trigger counting 1"
  unfoldable pub examined : List (Rule C) → ℕ
  examined [] = 0
  examined (r ∷ rules) = counted (is_trigger r) (trigger_line r) + examined rules

module _ {C : Type 0} (holds : Choice → C → Bool) (lines : ℕ → List Token) where
  -- a trigger token that has no alternative with "a token for each of its names .. so that all atoms hold"
  unfoldable pub unmet : Rule C → Token → Bool
  unmet r t = is_trigger lines r t && not (met holds lines r t)

  -- "trigger tokens in order": the first unmet one's number in its line, or the line's length
  unfoldable pub first_unmet : Rule C → ℕ
  first_unmet r = first (unmet r) (trigger_line lines r)

  unfoldable pub rule_unmet : Rule C → Bool
  rule_unmet r = ltb (first_unmet r) (length (trigger_line lines r))

  -- 12 "rule not met", "rules in order"; or 0 with the count
  unfoldable pub rules_fault : List (Rule C) → Numbers
  rules_fault rules =
      cond (ltb (first rule_unmet rules) (length rules))
      (numbers 12 (first rule_unmet rules) (first_unmet (get_or rules (first rule_unmet rules) no_rule)))
      (numbers 0 (examined lines rules) 0)

-- the judge of a book and a plan: "Fault numbers, in order of checking"
unfoldable pub judged : List ℕ → List ℕ → Numbers
judged b p = or_else (book_fault 1 b) (or_else (plan_fault b p) (rules_fault atom_holds (line_of p) (rules_of atoms b)))

-- the direct judge: "1 to 4 for the sheet, then 5 to 12 or 0 as above, with constraints in place of atoms"
unfoldable pub judged_sheet : List ℕ → List ℕ → Numbers
judged_sheet s p = or_else (book_fault 2 s) (or_else (plan_fault s p) (rules_fault constraint_holds (line_of p) (rules_of constraints s)))
