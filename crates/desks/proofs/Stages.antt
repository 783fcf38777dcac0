-- The stages of a desk's judgement, in the order of checking: the book's fault, or else 19, or else the plan's, or else what the desk's own
-- rules come to. Assumes nothing.
use mathlib.Core.Path.{◌≡◌, sym, ap, ◌∙◌}
use mathlib.Core.Bool.{Bool, true, false, ◌&&◌, cond}
use mathlib.Core.List.{List}
use Prim.Native.Nat.{ℕ, ◌^◌, ◌≤◌, ◌<◌}
use lib.Dec.{leb}
use borrow.Author.Tests.{le-leb, lt-leb}
use Rattle.words.proofs.Lists.{and-false}
use Rattle.std.specs.Prelude.{Ok, Err}
use Rattle.answers.specs.declared.Numbers.{Numbers}
use Rattle.answers.specs.declared.Done.{Done}
use Rattle.answers.specs.declared.Refusal.{Refusal}
use Rattle.answers.specs.declared.Refusal.TheVariants.{NoSuchDesk}
use Rattle.answers.specs.Numbers.{numbers, numbers_of, no_fault}
use Rattle.answers.proofs.Stages.{or_refused, or_done, done_number, else_next}
use Rattle.layout.specs.Layout.{count, offset}
use Rattle.book.specs.Rules.{rules_of}
use Rattle.book.specs.Encode.{atoms}
use Rattle.book.specs.Fault.{book_fault}
use Rattle.lines.specs.Lines.{line_of}
use Rattle.plan.specs.Fault.{plan_fault}
use Rattle.choice.specs.Met.{atom_holds}
use Rattle.choice.proofs.Typed.{book_reads}
use Rattle.verdict.specs.Judged.{examined}
use Rattle.verdict.proofs.Few.{few}
use Rattle.verdict.proofs.Typed.{examined-same}
use Rattle.desks.specs.List.{list_right}
use Rattle.desks.specs.Own.{own_fault, desk_fault, judged_desk}

-- the count of all rules fits, of a book and a plan without fault
pub own_few : (b p : List ℕ) (d e : Done) → numbers_of (Ok d) ≡ book_fault 1 b → numbers_of (Ok e) ≡ plan_fault b p
    → examined (line_of p) (rules_of atoms b) < 2 ^ 32
unfolding rules_of
own_few b p d e hb hp =
    rw (examined-same atoms atom_holds 1 b p (book_reads b) (count b 2) (offset b 2)) (few 1 b p (done_number d _ hb) (done_number e _ hp))

-- whether the list and the desk are right
pub wrong_list : (b desks : List ℕ) (desk : ℕ) → list_right b desks ≡ false → (list_right b desks && leb desk 1) ≡ false
wrong_list b desks desk h = rw h

pub wrong_desk : (b desks : List ℕ) (desk : ℕ) → 1 < desk → (list_right b desks && leb desk 1) ≡ false
wrong_desk b desks desk h = rw (lt-leb desk 1 h) (and-false (list_right b desks))

pub both_right : (b desks : List ℕ) (desk : ℕ) → list_right b desks ≡ true → desk ≤ 1 → (list_right b desks && leb desk 1) ≡ true
both_right b desks desk h k = rw (h, le-leb desk 1 k)

-- 19 or none
fault_so : (b desks : List ℕ) (desk : ℕ) (t : Bool) → (list_right b desks && leb desk 1) ≡ t → desk_fault b desks desk ≡ cond t no_fault (numbers 19 0 0)
unfolding desk_fault
fault_so b desks desk t h = rw h

module _ (b p desks : List ℕ) (desk : ℕ) where
  -- the book has a fault
  pub book_first : (r : Refusal) → numbers_of (Err r) ≡ book_fault 1 b → numbers_of (Err r) ≡ judged_desk b p desks desk
  unfolding judged_desk
  book_first r h = or_refused r _ _ h

  module _ (d : Done) (none : numbers_of (Ok d) ≡ book_fault 1 b) where
    -- the list or the desk is wrong
    pub desk_second : (list_right b desks && leb desk 1) ≡ false → numbers 19 0 0 ≡ judged_desk b p desks desk
    unfolding judged_desk
    desk_second h = or_refused NoSuchDesk _ _ (sym (fault_so b desks desk false h)) ∙ sym (or_done d _ _ none)

    module _ (right : (list_right b desks && leb desk 1) ≡ true) where
      fine : (desk_fault b desks desk).number ≡ 0
      fine = ap (λ (r : Numbers). r.number) (fault_so b desks desk true right)

      -- the plan has a fault
      pub plan_third : (r : Refusal) → numbers_of (Err r) ≡ plan_fault b p → numbers_of (Err r) ≡ judged_desk b p desks desk
      unfolding judged_desk
      plan_third r h = or_refused r _ _ h ∙ sym (or_done d _ _ none ∙ else_next (desk_fault b desks desk) _ fine)

      -- nothing has
      pub own_fourth : (e : Done) → numbers_of (Ok e) ≡ plan_fault b p → (z : Numbers) → z ≡ own_fault b p desks desk → z ≡ judged_desk b p desks desk
      unfolding judged_desk
      own_fourth e h z hz = hz ∙ sym (or_done d _ _ none ∙ else_next (desk_fault b desks desk) _ fine ∙ or_done e _ _ h)
