-- What the theorems of proofs/Easing are said in. Assumes nothing.
use Rattle.std.specs.Prelude.{◌≡◌, List, ℕ, ◌+◌}
use Rattle.answers.specs.declared.Numbers.{Numbers}
use Rattle.answers.specs.Numbers.{numbers}
use Rattle.book.specs.Rules.{Atom, Rule}
use Rattle.lines.specs.declared.Token.{Token}
use Rattle.claims.specs.Accepted.{Examined}
use Rattle.desks.specs.Own.{own_rules}
use Rattle.desks_claims.specs.Numbering.{rules_alone}
use Rattle.desks_claims.specs.Eased.{Eased, taken_out}

-- ---- what is claimed

-- what became of a count n: the plan gets 0 again, with what is left of it, and the removed rules counted what went
pub record Again (answer : Numbers) (lines : ℕ → List Token) (gone : List (Rule Atom)) (n : ℕ) : Type 0 where
  pub left : ℕ
  pub went : ℕ
  pub gets : answer ≡ numbers 0 left 0
  pub counted : Examined lines gone went
  pub sum : n ≡ left + went

-- the removed rules that were the desk's own
abbrev pub own_gone : {old new gone : List (Rule Atom)} → Eased old new gone → List ℕ → ℕ → List (Rule Atom)
own_gone {gone = gone} h desks desk = rules_alone (own_rules (taken_out h desks) desk gone)
