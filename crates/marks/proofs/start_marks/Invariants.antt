-- `marks::start_marks` meets its contract. The loop's invariant: the first k names are marked. Assumes nothing.
use Rattle.marks.specs.Marked.{Marked}
use Rattle.marks.proofs.start_marks.Given as goal

abbrev pub invariant-loop-k : goal.invariant-loop-k
invariant-loop-k l = Marked l.b l.p l.a l.fn.t l.k l.m.times l.m.rests
