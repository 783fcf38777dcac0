-- `reading::read_line` meets its contract: its loop keeps the invariant, and leaves what is promised. Assumes nothing.
use native.Mathlib.Omega.{arith}
use Rattle.reading.proofs.Whole.{passing_start, passing_step, passing_over, passing_done}
use Rattle.reading.proofs.read_line.Goals as goal

pub loop-init : goal.loop-init
loop-init c = passing_start _ _ _ _

pub returns-then-list-p : goal.returns-then-list-p
returns-then-list-p c = passing_over c.loop.invariant c.if-list-p.true

pub close-o-requires : goal.close-o-requires
close-o-requires c =
    let inv = c.loop.invariant in
    let pre = c.requires in
    (omega (arith, c.if-list-p.false, pre.0), omega (arith, inv.near, pre.0, pre.1), omega (arith, inv.few, pre.0))

pub next-p-requires : goal.next-p-requires
next-p-requires c = omega (arith, c.if-list-p.false, c.requires.0)

pub returns : goal.returns
returns c = passing_done c.loop.invariant (omega arith)

pub loop-preserved : goal.loop-preserved
loop-preserved c =
    let put = c.close-o.ensures in
    passing_step c.loop.invariant (omega arith) (omega (arith, c.if-list-p.false)) put.0 put.1 put.2 put.3 c.next-p.ensures
