-- What the theorems of proofs/Undisturbed are said in. Assumes nothing.
use Rattle.std.specs.Prelude.{◌≡◌, List, ℕ, ◌<◌, get_or}
use Rattle.words.specs.Words.{word}
use Rattle.answers.specs.declared.Numbers.{Numbers}
use Rattle.answers.specs.Numbers.{or_else}
use Rattle.layout.specs.Layout.{count}
use Rattle.book.specs.Rules.{Atom, rules_of, variables_of}
use Rattle.book.specs.Encode.{atoms}
use Rattle.lines.specs.Lines.{line_of}
use Rattle.plan.specs.Fault.{plan_fault}
use Rattle.choice.specs.Met.{atom_holds}
use Rattle.verdict.specs.Judged.{no_rule}
use Rattle.desks.specs.Own.{Numbered, numbered_fault}

-- ---- THE LAW

-- what a plan gets by a book's variables and by rules with their numbers, once the book, the list and the desk are right
abbrev pub plan_gets : List ℕ → List ℕ → List (Numbered Atom) → Numbers
plan_gets b p rules = or_else (plan_fault b p) (numbered_fault atom_holds (line_of p) rules)

-- ---- two books that a desk can't tell apart

-- "have equal variables, values, rule count .., and agree in every rule of one desk, alternatives and all, offsets aside"
pub record SameFor (b c desks : List ℕ) (desk : ℕ) : Type 0 where
  pub variables : variables_of b ≡ variables_of c
  pub rules : count b 2 ≡ count c 2
  pub own : (i : ℕ) → i < count b 2 → word desks i ≡ desk → get_or (rules_of atoms b) i no_rule ≡ get_or (rules_of atoms c) i no_rule
