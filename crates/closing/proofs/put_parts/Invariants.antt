-- `closing::put_parts` meets its contract. The invariant: the parts of the alternatives passed so far are copied, the others are left.
-- Assumes nothing.
use Rattle.writing.proofs.Writing.{GoingTo}
use Rattle.closing.specs.Left.{parts_from}
use Rattle.closing.proofs.put_parts.Given as goal

abbrev pub invariant-loop-a : goal.invariant-loop-a
invariant-loop-a l = GoingTo l.fn.w (parts_from l.s l.alts l.j l.size l.o 0) l.w (parts_from l.s l.alts l.j l.size l.o l.a-index)
