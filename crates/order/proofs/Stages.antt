-- The stages of the judge by ranks, in the order of checking: d and f are what the two checks are done with. Assumes nothing.
use mathlib.Core.Path.{◌≡◌, sym, ◌∙◌}
use mathlib.Core.Bool.{true, false}
use mathlib.Core.List.{List}
use Prim.Native.Nat.{ℕ, ◌^◌, ◌<◌}
use native.Mathlib.Omega.{arith}
use Rattle.std.specs.Prelude.{Ok, Err}
use Rattle.answers.specs.declared.Numbers.{Numbers}
use Rattle.answers.specs.declared.Done.{Done}
use Rattle.answers.specs.declared.Refusal.{Refusal}
use Rattle.answers.specs.Numbers.{numbers, numbers_of}
use Rattle.answers.proofs.Stages.{else_fault, else_next, done_number, or_refused, or_done}
use Rattle.book.specs.Encode.{atoms}
use Rattle.book.specs.Fault.{book_fault}
use Rattle.book.specs.Sound.{Sound}
use Rattle.lines.specs.Lines.{line_of}
use Rattle.plan.specs.Fault.{plan_fault}
use Rattle.plan.specs.Good.{PlanGood}
use Rattle.choice.specs.Met.{atom_holds}
use Rattle.choice.proofs.Typed.{book_reads}
use Rattle.verdict.specs.Judged.{examined}
use Rattle.verdict.specs.Survey.{placed_rules, placed_fault}
use Rattle.verdict.proofs.Typed.{rules_same}
use Rattle.sweep.specs.Sweeps.{Sweeps}
use Rattle.order.specs.Profile.{all_order, profile_fault}
use Rattle.order.specs.Ranked.{ranked_plan}
use Rattle.order.specs.Judged.{judged_by_order}
use Rattle.order.proofs.Good.{book_sound, plan_fine, plan_sweeps, ranked_few}

module _ (b p : List ℕ) where
  -- the book has a fault
  pub book_first : (r : Refusal) → numbers_of (Err r) ≡ book_fault 1 b → numbers_of (Err r) ≡ judged_by_order b p
  unfolding judged_by_order
  book_first r h = or_refused r _ _ h

  module _ (d : Done) (hd : numbers_of (Ok d) ≡ book_fault 1 b) where
    -- 26 "after 4 for a book outside the profile"
    pub order_second : all_order b ≡ false → numbers 26 0 0 ≡ judged_by_order b p
    unfolding judged_by_order profile_fault
    order_second e = sym (or_done d _ _ hd ∙ rw e (else_fault (numbers 26 0 0) _ (λ z. omega arith)))

    module _ (inside : all_order b ≡ true) where
      within : (profile_fault b).number ≡ 0
      unfolding profile_fault
      within = rw inside

      -- the plan has a fault
      pub plan_third : (r : Refusal) → numbers_of (Err r) ≡ plan_fault b p → numbers_of (Err r) ≡ judged_by_order b p
      unfolding judged_by_order
      plan_third r h = or_refused r _ _ h ∙ sym (or_done d _ _ hd ∙ else_next (profile_fault b) _ within)

      module _ (f : Done) (hf : numbers_of (Ok f) ≡ plan_fault b p) where
        good : Sound 1 b
        good = book_sound b (done_number d _ hd)

        fine : PlanGood b p
        fine = plan_fine b p (done_number f _ hf)

        pub swept : Sweeps p
        swept = plan_sweeps b p fine good

        pub few : examined (line_of (ranked_plan p)) (placed_rules 1 b) < 2 ^ 32
        few = ranked_few b p good fine

        pub rules_fourth : (z : Numbers) → z ≡ placed_fault 1 b (ranked_plan p) → z ≡ judged_by_order b p
        unfolding judged_by_order
        rules_fourth z hz =
            hz
            ∙ sym
            (or_done d _ _ hd ∙ else_next (profile_fault b) _ within ∙ or_done f _ _ hf
            ∙ rules_same atoms atom_holds 1 b (ranked_plan p) (book_reads b))
