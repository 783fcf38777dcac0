-- `reading::put_lines` meets its contract: its loop keeps the invariant, and leaves what is promised. Assumes nothing.
use native.Mathlib.Omega.{arith}
use Rattle.reading.proofs.Whole.{lines_start, lines_step, lines_end}
use Rattle.reading.proofs.put_lines.Goals as goal

pub loop-x-init : goal.loop-x-init
loop-x-init c = (omega arith, lines_start _ _ _ _)

pub read_line-to-requires : goal.read_line-to-requires
read_line-to-requires c = let pre = c.requires in (pre.0, omega (arith, c.loop-x.invariant.0, pre.1, pre.2))

pub loop-x-preserved : goal.loop-x-preserved
loop-x-preserved c =
    let inv = c.loop-x.invariant in
    let read = c.read_line-to.ensures in
    (omega (arith, inv.0, read.near, c.requires.0), lines_step inv.1 c.loop-x-test.true read.wrote)

pub returns : goal.returns
returns c = let inv = c.loop-x.invariant in (lines_end inv.1 c.loop-x-test.false, omega (arith, inv.0))
