-- `layout::rule_of` meets its contract, by the invariant in Invariants.antt. Assumes nothing.
use native.Mathlib.Omega.{arith}
use borrow.Author.Tests.{lt-ltb}
use Rattle.words.proofs.Least.{least_at, scan_all}
use Rattle.layout.specs.Layout.{owner}
use Rattle.layout.proofs.rule_of.Goals as goal

pub returns-then-a-number_at : goal.returns-then-a-number_at
unfolding owner
returns-then-a-number_at c =
    (least_at _ _ _ c.loop-r.invariant (omega arith) (cc (lt-ltb _ _ c.if-a-number_at.true)), omega arith)

pub returns : goal.returns
unfolding owner
returns c =
    (scan_all c.loop-r.invariant c.loop-r.auto.r-end c.loop-r-test.false c.count_of-n.ensures.0, omega arith)
