-- The stages of the judge, in the order of checking: the book's fault, or else the plan's, or else what the rules come to. Assumes nothing.
use mathlib.Core.Path.{◌≡◌, sym, ◌∙◌}
use mathlib.Core.List.{List}
use Prim.Native.Nat.{ℕ, ◌^◌, ◌<◌}
use Rattle.std.specs.Prelude.{Ok, Err}
use Rattle.answers.specs.declared.Numbers.{Numbers}
use Rattle.answers.specs.declared.Done.{Done}
use Rattle.answers.specs.declared.Refusal.{Refusal}
use Rattle.answers.specs.Numbers.{numbers_of}
use Rattle.answers.proofs.Stages.{or_refused, or_done, done_number}
use Rattle.book.specs.Fault.{book_fault}
use Rattle.lines.specs.Lines.{line_of}
use Rattle.plan.specs.Fault.{plan_fault}
use Rattle.verdict.specs.Judged.{examined}
use Rattle.verdict.specs.Survey.{placed_rules, placed_fault, judged_by}
use Rattle.verdict.proofs.Few.{few}

module _ (e : ℕ) (b p : List ℕ) where
  -- the book has a fault
  pub book_first : (r : Refusal) → numbers_of (Err r) ≡ book_fault e b → numbers_of (Err r) ≡ judged_by e b p
  unfolding judged_by
  book_first r h = or_refused r _ _ h

  module _ (d : Done) (none : numbers_of (Ok d) ≡ book_fault e b) where
    -- the plan has one
    pub plan_second : (r : Refusal) → numbers_of (Err r) ≡ plan_fault b p → numbers_of (Err r) ≡ judged_by e b p
    unfolding judged_by
    plan_second r h = or_refused r _ _ h ∙ sym (or_done d _ _ none)

    module _ (d2 : Done) (fine : numbers_of (Ok d2) ≡ plan_fault b p) where
      pub rules_few : examined (line_of p) (placed_rules e b) < 2 ^ 32
      rules_few = few e b p (done_number d _ none) (done_number d2 _ fine)

      pub rules_third : (z : Numbers) → z ≡ placed_fault e b p → z ≡ judged_by e b p
      unfolding judged_by
      rules_third z h = h ∙ sym (or_done d _ _ none ∙ or_done d2 _ _ fine)
