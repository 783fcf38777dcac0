-- `sweep::moments` meets its contract: its loop keeps the invariant, and leaves what is promised. Assumes nothing.
use mathlib.Core.Path.{refl}
use native.Mathlib.Omega.{arith}
use lib.ListN.{length-set}
use Rattle.sweep.proofs.Sweeping.{sweep-first, sweep-lines, sweep-places, sweep_room, sweep_tick, sweep_fewer, sweep_on, sweep-last}
use Rattle.sweep.proofs.moments.Goals as goal

pub offset_bounds-times-at : goal.offset_bounds-times-at
offset_bounds-times-at c =
    omega (arith, sweep_room _ _ _ _ _ _ _ c.loop-next.invariant.0)

pub overflow_add-at : goal.overflow_add-at
overflow_add-at c =
    omega (arith, sweep_room _ _ _ _ _ _ _ c.loop-next.invariant.0)

pub offset_bounds-times-at-2 : goal.offset_bounds-times-at-2
offset_bounds-times-at-2 c =
    omega (arith, sweep_room _ _ _ _ _ _ _ c.loop-next.invariant.0)

pub begin-s-requires : goal.begin-s-requires
begin-s-requires c = c.requires.0.few

pub soonest-next-requires : goal.soonest-next-requires
soonest-next-requires c = omega (arith, c.number_at-n.ensures.0, c.requires.0.few)

pub loop-next-init : goal.loop-next-init
loop-next-init c =
    let k = c in
    let pre = k.requires in
    (sweep-first _ _ _ _ _ pre.0 pre.1 k.number_at-n.ensures.0 c.begin-s.ensures c.soonest-next.ensures, refl)

pub bounds-times-at : goal.bounds-times-at
bounds-times-at c = let h = c.loop-next.invariant.0 in omega (arith, sweep_room _ _ _ _ _ _ _ h, h.room)

pub overflow_add-time : goal.overflow_add-time
overflow_add-time c = omega (arith, sweep_tick _ _ _ _ _ _ _ c.loop-next.invariant.0 c.loop-next-test.true)

pub later-s-requires : goal.later-s-requires
later-s-requires c = let h = c.loop-next.invariant.0 in (sweep-lines _ _ _ _ _ _ _ h, sweep-places _ _ _ _ _ _ _ h)

pub soonest-next-requires-in-loop-next : goal.soonest-next-requires-in-loop-next
soonest-next-requires-in-loop-next c = sweep-lines _ _ _ _ _ _ _ c.loop-next.invariant.0

pub loop-next-smaller : goal.loop-next-smaller
loop-next-smaller c = sweep_fewer _ _ _ _ _ _ _ c.loop-next.invariant.0 c.loop-next-test.true _ c.later-s.ensures

pub loop-next-preserved : goal.loop-next-preserved
loop-next-preserved c =
    let l = c in (
      sweep_on _ _ _ _ _ _ _ l.loop-next.invariant.0 c.loop-next-test.true _ c.later-s.ensures _ c.soonest-next-in-loop-next.ensures,
      simp length-set l.loop-next.invariant.1,
    )

pub bounds-times-at-2 : goal.bounds-times-at-2
bounds-times-at-2 c = let h = c.loop-next.invariant.0 in omega (arith, sweep_room _ _ _ _ _ _ _ h, h.room)

pub shape_of-times : goal.shape_of-times
shape_of-times c = simp length-set c.loop-next.invariant.1

pub returns : goal.returns
returns c =
    let h = c.loop-next.invariant.0 in
    (sweep-last _ _ _ _ _ _ _ h c.loop-next-test.false, sweep_room _ _ _ _ _ _ _ h, simp length-set c.loop-next.invariant.1)
