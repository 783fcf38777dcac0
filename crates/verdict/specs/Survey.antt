-- What the contracts of the judge's loops cite: the decoded meaning with the code's places for arguments, table 5 read by place (see
-- matching's Placed). Assumes nothing.
use Rattle.std.specs.Prelude.{◌≡◌, true, false, List, ℕ, Result, Ok, Err}
use Rattle.answers.specs.declared.Numbers.{Numbers}
use Rattle.answers.specs.Numbers.{or_else}
use Rattle.book.specs.Rules.{Rule, rule_at, rules_of}
use Rattle.book.specs.Fault.{book_fault}
use Rattle.lines.specs.Lines.{line_of}
use Rattle.plan.specs.Fault.{plan_fault}
use Rattle.choice.specs.Asked.{places, ask_holds}
use Rattle.verdict.specs.Judged.{counted, trigger_line, is_trigger, first_unmet, rule_unmet, rules_fault}

-- the rule at a place, and all rules
abbrev pub placed_rule : ℕ → List ℕ → ℕ → Rule ℕ
placed_rule e b at = rule_at (places e) b at

abbrev pub placed_rules : ℕ → List ℕ → List (Rule ℕ)
placed_rules e b = rules_of (places e) b

-- the rule at a place is met for each of its trigger tokens, which are n
pub record AllMet (e : ℕ) (b p : List ℕ) (at n : ℕ) : Type 0 where
  pub unmet : rule_unmet (ask_holds e b) (line_of p) (placed_rule e b at) ≡ false
  pub count : n ≡ counted (is_trigger (line_of p) (placed_rule e b at)) (trigger_line (line_of p) (placed_rule e b at))

-- it isn't met for one of them, and number i is the first
pub record OneUnmet (e : ℕ) (b p : List ℕ) (at i : ℕ) : Type 0 where
  pub unmet : rule_unmet (ask_holds e b) (line_of p) (placed_rule e b at) ≡ true
  pub token : i ≡ first_unmet (ask_holds e b) (line_of p) (placed_rule e b at)

-- what a survey of the rule at a place says: how many trigger tokens there are, or the first for which the rule isn't met
abbrev pub Surveyed : ℕ → List ℕ → List ℕ → ℕ → Result ℕ ℕ → Type 0
Surveyed e b p at (Ok count) = AllMet e b p at count
Surveyed e b p at (Err token) = OneUnmet e b p at token

-- 12, or 0 with the count
unfoldable pub placed_fault : ℕ → List ℕ → List ℕ → Numbers
placed_fault e b p = rules_fault (ask_holds e b) (line_of p) (placed_rules e b)

-- the judge for an edition
unfoldable pub judged_by : ℕ → List ℕ → List ℕ → Numbers
judged_by e b p = or_else (book_fault e b) (or_else (plan_fault b p) (placed_fault e b p))
