-- `earliest::show` meets its contract, by the invariant in Invariants.antt. Assumes nothing.
use native.Mathlib.Omega.{arith}
use Rattle.earliest.specs.Times.{shown_from}
use Rattle.earliest.specs.Steps.{table_times}
use Rattle.earliest.proofs.Showing.{shown-long, shown_there, copied-set, all-copied}
use Rattle.earliest.proofs.show.Goals as goal

pub bounds-times-i : goal.bounds-times-i
bounds-times-i c = let long = c.loop-i.invariant.long in omega arith

pub loop-i-preserved : goal.loop-i-preserved
loop-i-preserved c =
    let l = c.loop-i in
    let long = l.invariant.long in
    copied-set _ (omega arith) (shown_there _ _ _ _ _ (omega arith) c.shown_at.ensures) l.invariant

pub shape_of-times : goal.shape_of-times
shape_of-times c = c.loop-i.invariant.long

pub returns : goal.returns
returns c =
    let l = c.loop-i in
    let a = c.args in
    let ts = shown_from (table_times a.x.now) a.k a.n in
    let long = shown-long (table_times a.x.now) a.k a.n in
    all-copied ts l.i (omega arith) l.invariant
