-- A list is one that the writer could have made exactly if the plan that it gives passes and, written again, is the list. Assumes nothing.
use mathlib.Core.Path.{◌≡◌, refl, sym, ap, ◌∙◌}
use mathlib.Core.Bool.{Bool, true, false, ◌&&◌, true≢false}
use mathlib.Core.Logic.{◌↔◌}
use mathlib.Core.List.{List}
use Prim.Native.Nat.{ℕ}
use lib.Dec.{eqb}
use borrow.Author.Tests.{eqb-true, eq-eqb}
use Rattle.book.specs.Fault.{book_fault}
use Rattle.plan.specs.Fault.{plan_fault}
use Rattle.event_list.specs.Plans.{list_of}
use Rattle.event_list.specs.Reading.{plan_from}
use Rattle.event_list.specs.Sends.{is_words}
use Rattle.event_list.specs.Answers.{Made, could_be_written}
use Rattle.event_list.proofs.Sends.{is-words}
use Rattle.event_list.proofs.Good.{writes}
use Rattle.event_list.proofs.Round.{round}

module _ (b : List ℕ) (sound : (book_fault 1 b).number ≡ 0) where
  -- it is the plan that the list gives
  pub made-from : (w p : List ℕ) → (plan_fault b p).number ≡ 0 → list_of p ≡ w → plan_from b w ≡ p
  made-from w p h e = ap (plan_from b) (sym e) ∙ round b p (writes b p sound h)

  -- THE LAW
  pub could_iff : (w : List ℕ) → (could_be_written b w ≡ true) ↔ Made b w
  unfolding could_be_written
  could_iff w = (
    λ h.
        let q = both (eqb (plan_fault b (plan_from b w)).number 0) (is_words w (list_of (plan_from b w))) h in
        record { plan = plan_from b w; passes = eqb-true _ _ q.0; list = sym ((is-words w (list_of (plan_from b w))).0 q.1) },
    λ m.
        let is : plan_from b w ≡ m.plan = made-from w m.plan m.passes m.list in
        rw (is, eq-eqb _ _ m.passes) ((is-words w (list_of m.plan)).1 (sym m.list)),
  )
    where
      both : (s t : Bool) → (s && t) ≡ true → (s ≡ true) × (t ≡ true)
      both true t h = (refl, h)
      both false t h = absurd (true≢false (sym h))
