-- `removal::list_left` meets its contract, by the invariant in Invariants.antt. Assumes nothing.
use mathlib.Core.Path.{refl}
use native.Mathlib.Omega.{arith}
use Rattle.listing.proofs.Going.{go, done, put_one}
use Rattle.removal.proofs.Rising.{listed_left, kept_left, left-none}
use Rattle.removal.proofs.list_left.Goals as goal
use Rattle.removal.proofs.list_left.Goals.{then-not-contains, else-not-contains}

pub loop-i-preserved : goal.loop-i-preserved
loop-i-preserved c =
    let g = c.loop-i.invariant.1 in
    let l = c.loop-i-test.true in
    let e = c.contains.ensures.value in
    elim c.if-not-contains.branch [
      | then-not-contains w ↦ rw (w.left-is, w.at-is) (omega arith, go g (kept_left _ _ _ l _ e w.if-not-contains.true) (put_one _ _ _ refl))
      | else-not-contains w ↦ rw (w.left-is, w.at-is) (omega arith, rw (← listed_left _ _ _ l _ e w.if-not-contains.false) g)
    ]

pub returns : goal.returns
returns c = done c.loop-i.invariant.1 (left-none _ _ _ (omega arith))
