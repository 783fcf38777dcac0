-- `marks::raise` meets its contract: a mark that is moved loses no choice. Assumes nothing.
use Prim.Native.Nat.{◌-◌}
use native.Mathlib.Omega.{arith}
use Rattle.marks.proofs.Marks.{raise_now, mark_some, mark_room, mark_small, raise_ever, raise_next, raise_less}
use Rattle.marks.proofs.raise.Goals as goal

pub returns-then-k-eq-TRIGGER : goal.returns-then-k-eq-TRIGGER
returns-then-k-eq-TRIGGER c =
    let m = c.loop-k.invariant in
    (m, raise_now _ _ _ _ _ _ m _ _ c.if-k-eq-TRIGGER.true c.in-Some.is c.asks_early.ensures)

pub move_mark-requires : goal.move_mark-requires
move_mark-requires c =
    let m = c.loop-k.invariant in
    let e = c.asks_early in
    let o = c.in-Some.is in
    let j = c.in-Some.k - 1 in (
      omega arith,
      c.requires.1,
      mark_some _ _ _ _ _ _ m j _ _ (omega arith) o e.ensures (λ i. (c.type_inv.p i).fits),
      mark_room _ _ _ _ _ _ m j _ _ (omega arith) o e.ensures (λ i. (c.type_inv.p i).fits),
      mark_small _ _ _ _ _ _ m j _ _ (omega arith) o e.ensures (λ i. (c.type_inv.p i).fits),
    )

pub returns-then-not-move_mark : goal.returns-then-not-move_mark
returns-then-not-move_mark c =
    raise_ever _ _ _ _ _ _ c.loop-k.invariant (c.in-Some.k - 1) _ _ (omega arith) c.in-Some.is c.asks_early.ensures (λ i. (c.type_inv.p i).fits) _ _ _
    c.move_mark.ensures c.if-not-move_mark.true

pub loop-k-smaller : goal.loop-k-smaller
loop-k-smaller c =
    raise_less _ _ _ _ _ _ c.loop-k.invariant (c.in-Some.k - 1) _ _ (omega arith) c.in-Some.is c.asks_early.ensures (λ i. (c.type_inv.p i).fits) _ _ _
    c.move_mark.ensures c.if-not-move_mark.false

pub loop-k-preserved : goal.loop-k-preserved
loop-k-preserved c =
    raise_next _ _ _ _ _ _ c.loop-k.invariant (c.in-Some.k - 1) _ _ (omega arith) c.in-Some.is c.asks_early.ensures (λ i. (c.type_inv.p i).fits) _ _ _
    c.move_mark.ensures c.if-not-move_mark.false
