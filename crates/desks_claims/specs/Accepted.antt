-- What the theorems of proofs/Accepted are said in. Assumes nothing.
use Rattle.std.specs.Prelude.{◌≡◌, List, ℕ, ◌≤◌, ◌<◌, length, get_or}
use Rattle.words.specs.Words.{word}
use Rattle.layout.specs.Layout.{count}
use Rattle.book.specs.Rules.{Atom, Rule, rules_of, variables_of}
use Rattle.book.specs.Encode.{atoms}
use Rattle.book.specs.Sound.{Sound}
use Rattle.lines.specs.Lines.{line_of}
use Rattle.verdict.specs.Judged.{no_rule}
use Rattle.claims.specs.Papers.{Plan, SatisfiedIn, Satisfies}
use Rattle.claims.specs.Wrongs.{Tables}
use Rattle.desks.specs.Own.{own_rules}
use Rattle.desks_claims.specs.Numbering.{rules_alone}

-- ---- what is claimed

-- "A lent list has one word for each rule, its desk", 0 or 1
pub record ListFits (b desks : List ℕ) : Type 0 where
  pub long : length desks ≡ count b 2
  pub low : (i : ℕ) → i < length desks → word desks i ≤ 1

-- and the desk that asks is 0 or 1
pub record DeskFits (b desks : List ℕ) (desk : ℕ) : Type 0 where
  pub list : ListFits b desks
  pub asked : desk ≤ 1

-- a fact of each rule whose word in the list is the desk
abbrev pub EachOwn : {C : Type 0} → List ℕ → ℕ → (Rule C → Type 0) → List (Rule C) → Type 0
EachOwn desks desk P rules = (i : ℕ) → i < length rules → word desks i ≡ desk → P (get_or rules i no_rule)

-- a plan that a desk accepts: as `Accepted` of claims, with "only its own rules"
pub record DeskAccepted (b p desks : List ℕ) (who : ℕ) : Type 0 where
  pub book : Sound 1 b
  pub desk : DeskFits b desks who
  pub tables : Tables b p
  pub plan : Plan (variables_of b) (line_of p)
  pub satisfied : EachOwn desks who (Satisfies (SatisfiedIn (line_of p)) (line_of p)) (rules_of atoms b)

-- the desk's own rules, without their numbers
abbrev pub own : List ℕ → List ℕ → ℕ → List (Rule Atom)
own b desks desk = rules_alone (own_rules desks desk (rules_of atoms b))
