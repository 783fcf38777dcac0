-- A desk's own rules, with their numbers, and its judgement: "answers up to 18 as before, then only its own rules". Assumes nothing.
use Rattle.std.specs.Prelude.{Bool, ◌&&◌, cond, List, [], ◌∷◌, ℕ, suc, ◌+◌, leb, eqb}
use Rattle.words.specs.Words.{word}
use Rattle.answers.specs.declared.Numbers.{Numbers}
use Rattle.answers.specs.Numbers.{numbers, no_fault, or_else}
use Rattle.book.specs.Rules.{Rule, rules_of}
use Rattle.book.specs.Encode.{atoms}
use Rattle.book.specs.Fault.{book_fault}
use Rattle.lines.specs.declared.Token.{Token}
use Rattle.lines.specs.Lines.{line_of}
use Rattle.plan.specs.Fault.{plan_fault}
use Rattle.choice.specs.Met.{Choice, atom_holds}
use Rattle.verdict.specs.Judged.{counted, trigger_line, is_trigger, first_unmet, rule_unmet}
use Rattle.desks.specs.List.{list_right}

-- a rule with its number in the book
pub record Numbered (C : Type 0) : Type 0 where
  pub number : ℕ
  pub rule : Rule C

module _ {C : Type 0} where
  -- "rule numbers are those of the whole book"; the first of these rules has the number `from`
  unfoldable pub numbered : ℕ → List (Rule C) → List (Numbered C)
  numbered from [] = []
  numbered from (r ∷ rules) = record { number = from; rule = r } ∷ numbered (suc from) rules

  -- "A lent list has one word for each rule, its desk": those of one desk
  unfoldable pub of_desk : List ℕ → ℕ → List (Numbered C) → List (Numbered C)
  of_desk desks desk [] = []
  of_desk desks desk (x ∷ xs) = cond (eqb (word desks x.number) desk) (x ∷ of_desk desks desk xs) (of_desk desks desk xs)

  -- "only its own rules"
  unfoldable pub own_rules : List ℕ → ℕ → List (Rule C) → List (Numbered C)
  own_rules desks desk rules = of_desk desks desk (numbered 0 rules)

-- how many trigger tokens a rule has
abbrev pub triggers_of : {C : Type 0} → (ℕ → List Token) → Rule C → ℕ
triggers_of lines r = counted (is_trigger lines r) (trigger_line lines r)

module _ {C : Type 0} (holds : Choice → C → Bool) (lines : ℕ → List Token) where
  -- "12 rule not met", "rules in order", with the rule's number; or 0 with the count, where `seen` were counted before these rules
  unfoldable pub fault_from : ℕ → List (Numbered C) → Numbers
  fault_from seen [] = numbers 0 seen 0
  fault_from seen (x ∷ xs) =
      cond (rule_unmet holds lines x.rule)
      (numbers 12 x.number (first_unmet holds lines x.rule))
      (fault_from (seen + triggers_of lines x.rule) xs)

  -- what the rules of a list come to, whatever numbers they have
  unfoldable pub numbered_fault : List (Numbered C) → Numbers
  numbered_fault rules = fault_from 0 rules

-- what a desk's own rules come to
unfoldable pub own_fault : List ℕ → List ℕ → List ℕ → ℕ → Numbers
own_fault b p desks desk = numbered_fault atom_holds (line_of p) (own_rules desks desk (rules_of atoms b))

-- 19 "for a list of the wrong length, a word over 1 or a desk over 1"
unfoldable pub desk_fault : List ℕ → List ℕ → ℕ → Numbers
desk_fault b desks desk = cond (list_right b desks && leb desk 1) no_fault (numbers 19 0 0)

-- a desk's own judgement of a book and a plan; 19 is "after 4 and before 5"
unfoldable pub judged_desk : List ℕ → List ℕ → List ℕ → ℕ → Numbers
judged_desk b p desks desk = or_else (book_fault 1 b) (or_else (desk_fault b desks desk) (or_else (plan_fault b p) (own_fault b p desks desk)))
