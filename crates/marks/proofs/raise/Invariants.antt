-- `marks::raise` meets its contract. The loop's invariant: what was marked stays marked. The measure is the tokens left at the marks.
-- Assumes nothing.
use Rattle.marks.specs.Marked.{Marked}
use Rattle.marks.proofs.Choices.{total}
use Rattle.marks.proofs.raise.Given as goal

abbrev pub invariant-loop-k : goal.invariant-loop-k
invariant-loop-k l = Marked l.b l.p l.a l.fn.t l.a.names l.m.times l.m.rests

abbrev pub decreases-loop-k : goal.decreases-loop-k
decreases-loop-k l = total l.m.rests
