-- `reading::put_heads` meets its contract: its loop keeps the invariant, and leaves what is promised. Assumes nothing.
use native.Mathlib.Omega.{arith}
use Rattle.reading.proofs.Whole.{heads_start, heads_step, heads_end}
use Rattle.reading.proofs.put_heads.Goals as goal

pub loop-x-init : goal.loop-x-init
loop-x-init c = (omega arith, heads_start _ _ _ _)

pub returns : goal.returns
returns c = heads_end c.loop-x.invariant.1 c.loop-x-test.false c.loop-x.auto.x-end

pub loop-x-preserved : goal.loop-x-preserved
loop-x-preserved c =
    let inv = c.loop-x.invariant in
    let count = c.count_line-tokens.ensures in
    (omega (arith, inv.0, count.1), heads_step inv.1 c.loop-x-test.true count.0 c.put_at.ensures c.put_at-in-loop-x.ensures)
