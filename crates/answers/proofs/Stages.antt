-- The laws of what specs/Numbers defines. Assumes nothing.
use mathlib.Core.Path.{◌≡◌, refl, sym, subst, ◌∙◌}
use mathlib.Core.Bool.{Bool, true, false, cond}
use mathlib.Core.Logic.{◌↔◌}
use Prim.Native.Nat.{ℕ, suc}
use native.Mathlib.Omega.{arith}
use lib.Dec.{eqb}
use borrow.Author.Tests.{eq-eqb, ne_eqb, eqb-true, eqb-false}
use Rattle.std.specs.Prelude.{Ok, Err}
use Rattle.answers.specs.declared.Numbers.{Numbers}
use Rattle.answers.specs.declared.Done.{Done}
use Rattle.answers.specs.declared.Refusal.{Refusal}
use Rattle.answers.specs.declared.Refusal.TheVariants.{BookLength, BookHeader, BookEnd, BookRecord, PlanLength, PlanHeader, PlanEnd, ValueUnknown, DurationOutside, NotSuccessor, PastLastTick, RuleNotMet, TooManyAlternatives, TooLong, RoomTooShort, NoSuchTimeline, EndsApart, NoSuchDesk, NotAnEventList, EventRoomTooShort, NoSuchRules, NotOrderOnly, NoSuchAlternative, TableTooShort}
use Rattle.answers.specs.Numbers.{numbers_at, numbers, numbers_refused, numbers_of, no_fault, or_else}

-- a fault is the answer, whatever comes after it
pub else_fault : (x y : Numbers) → (x.number ≡ 0 → ⊥) → or_else x y ≡ x
unfolding or_else
else_fault x y h = rw (ne_eqb _ _ h)

-- where nothing is wrong, the answer is the next one's
pub else_next : (x y : Numbers) → x.number ≡ 0 → or_else x y ≡ y
unfolding or_else
else_next x y h = rw (eq-eqb _ _ h)

-- a stage and those after it have the number 0 just where neither found a fault
pub stages : (x y : Numbers) → ((or_else x y).number ≡ 0) ↔ ((x.number ≡ 0) × (y.number ≡ 0))
unfolding or_else
stages x y = both (eqb x.number 0) refl
  where
    both : (t : Bool) → eqb x.number 0 ≡ t → ((cond t y x).number ≡ 0) ↔ ((x.number ≡ 0) × (y.number ≡ 0))
    both true e = (λ h. (eqb-true _ _ e, h), λ h. h.1)
    both false e = (λ h. absurd (eqb-false _ _ e h), λ h. h.0)

-- a stage that gives its fault where a test holds found none: the test doesn't hold
pub stage_at : (t : Bool) (n x y z : ℕ) → (cond t (numbers_at (suc n) x y z) no_fault).number ≡ 0 → t ≡ false
stage_at true n x y z h = absurd (omega arith)
stage_at false n x y z h = refl

pub stage : (t : Bool) (n x y : ℕ) → (cond t (numbers (suc n) x y) no_fault).number ≡ 0 → t ≡ false
stage t n x y = stage_at t n x y 0

-- and one that gives its fault where a test doesn't hold: it holds
pub held : (t : Bool) (n x y : ℕ) → (cond t no_fault (numbers (suc n) x y)).number ≡ 0 → t ≡ true
held true n x y h = refl
held false n x y h = absurd (omega arith)

-- no refusal has the number 0
pub refusal_number : (r : Refusal) → (numbers_refused r).number ≡ 0 → ⊥
refusal_number BookLength h = omega arith
refusal_number (BookHeader w) h = omega arith
refusal_number BookEnd h = omega arith
refusal_number (BookRecord t r w) h = omega arith
refusal_number PlanLength h = omega arith
refusal_number (PlanHeader w) h = omega arith
refusal_number PlanEnd h = omega arith
refusal_number (ValueUnknown l t) h = omega arith
refusal_number (DurationOutside l t) h = omega arith
refusal_number (NotSuccessor l t) h = omega arith
refusal_number (PastLastTick l t) h = omega arith
refusal_number (RuleNotMet r t) h = omega arith
refusal_number (TooManyAlternatives r) h = omega arith
refusal_number (TooLong t) h = omega arith
refusal_number (RoomTooShort w) h = omega arith
refusal_number NoSuchTimeline h = omega arith
refusal_number (EndsApart l) h = omega arith
refusal_number NoSuchDesk h = omega arith
refusal_number NotAnEventList h = omega arith
refusal_number (EventRoomTooShort w) h = omega arith
refusal_number NoSuchRules h = omega arith
refusal_number NotOrderOnly h = omega arith
refusal_number NoSuchAlternative h = omega arith
refusal_number TableTooShort h = omega arith

-- where a stage refuses, its numbers aren't 0; where it is done, they are
pub refused_number : (r : Refusal) (x : Numbers) → numbers_of (Err r) ≡ x → x.number ≡ 0 → ⊥
refused_number r x h = subst (λ (y : Numbers). y.number ≡ 0 → ⊥) h (refusal_number r)

pub done_number : (d : Done) (x : Numbers) → numbers_of (Ok d) ≡ x → x.number ≡ 0
done_number d x h = subst (λ (y : Numbers). y.number ≡ 0) h refl

-- for `?`: what a stage refuses with is the answer, and where it is done the next stage's is
pub or_refused : (r : Refusal) (x y : Numbers) → numbers_of (Err r) ≡ x → numbers_of (Err r) ≡ or_else x y
or_refused r x y h = h ∙ sym (else_fault x y (refused_number r x h))

pub or_done : (d : Done) (x y : Numbers) → numbers_of (Ok d) ≡ x → or_else x y ≡ y
or_done d x y h = else_next x y (done_number d x h)
