-- `layout::Tables::owner_from` meets its contract, by the invariant in Invariants.antt. Assumes nothing.
use native.Mathlib.Omega.{arith}
use borrow.Author.Tests.{lt-ltb, le-ltb}
use Rattle.words.proofs.Least.{clear_more, least_at, scan_all}
use Rattle.layout.specs.Layout.{owner}
use Rattle.layout.proofs.Tables.owner_from.Goals as goal

pub returns-then-i-range_end : goal.returns-then-i-range_end
unfolding owner
returns-then-i-range_end c =
    (least_at _ _ _ c.loop-k.invariant (omega arith) (cc (lt-ltb _ _ c.if-i-range_end.true)), omega arith)

pub loop-k-preserved : goal.loop-k-preserved
loop-k-preserved c =
    clear_more _ _ c.loop-k.invariant (cc (le-ltb _ _ c.if-i-range_end.false))

pub returns : goal.returns
unfolding owner
returns c =
    (scan_all c.loop-k.invariant (omega arith) c.loop-k-test.false c.count_of-n.ensures.0, omega arith)
