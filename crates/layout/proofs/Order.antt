-- The order of the faults of a layout, and that one without fault has its tables within the book. Assumes nothing.
use mathlib.Core.Path.{◌≡◌, refl}
use mathlib.Core.Bool.{Bool, true, false, cond}
use mathlib.Core.List.{List}
use Prim.Native.Nat.{ℕ, ◌≤◌}
use native.Mathlib.Omega.{arith}
use lib.Dec.{eqb}
use borrow.Author.Tests.{eqb-true, not-false}
use lib.ListN.{length}
use Rattle.answers.specs.declared.Numbers.{Numbers}
use Rattle.answers.specs.Numbers.{or_else}
use Rattle.answers.proofs.Stages.{stages, stage, held}
use Rattle.words.proofs.Least.{none_below}
use Rattle.layout.specs.Layout.{offset, ending, begins, header_wrong}
use Rattle.layout.specs.Fault.{header_fault, end_fault, layout_fault}
use Rattle.layout.specs.Owner.{Within}
use Rattle.layout.proofs.Bounds.{tables}

-- the first of two stages, or else a third, is the first, or else what comes after it
pub else_else : (x y z : Numbers) → or_else (or_else x y) z ≡ or_else x (or_else y z)
unfolding or_else
else_else x y z = side (eqb x.number 0) refl
  where
    side : (t : Bool) → eqb x.number 0 ≡ t → cond (eqb (cond t y x).number 0) z (cond t y x) ≡ cond t (cond (eqb y.number 0) z y) x
    side true e = refl
    side false e = rw e

-- where the header is right and table 5 ends at the length, every table ends in the book
within : (e : ℕ) (b : List ℕ) → ((k : ℕ) → k ≤ 13 → header_wrong e b k ≡ false) → ending e b 5 ≡ length b → Within e b
unfolding header_wrong begins
within e b clear end =
    let o1 : offset b 1 ≡ ending e b 0 = eqb-true _ _ (not-false _ (clear 5 (omega arith))) in
    let o2 : offset b 2 ≡ ending e b 1 = eqb-true _ _ (not-false _ (clear 7 (omega arith))) in
    let o3 : offset b 3 ≡ ending e b 2 = eqb-true _ _ (not-false _ (clear 9 (omega arith))) in
    let o4 : offset b 4 ≡ ending e b 3 = eqb-true _ _ (not-false _ (clear 11 (omega arith))) in
    let o5 : offset b 5 ≡ ending e b 4 = eqb-true _ _ (not-false _ (clear 13 (omega arith))) in
    tables (λ t. ending e b t ≤ length b) (omega arith) (omega arith) (omega arith) (omega arith) (omega arith) (omega arith)

-- so it is in a book whose layout has no fault
pub all-within : (e : ℕ) (b : List ℕ) → (layout_fault e b).number ≡ 0 → Within e b
unfolding layout_fault header_fault end_fault
all-within e b h =
    let s = (stages _ _).0 ((stages _ _).0 h).1 in
    let clear = (none_below 14 (header_wrong e b)).0 (stage _ 1 _ _ s.0) in
    within e b (λ k l. clear k (omega arith)) (eqb-true _ _ (held _ 2 0 0 s.1))
