-- `closing::list_alternatives` meets its contract. The invariant: the alternatives of the rules passed so far are listed, the others are left.
-- Assumes nothing.
use Rattle.writing.proofs.Writing.{GoingTo}
use Rattle.closing.specs.Left.{alts_from}
use Rattle.closing.proofs.list_alternatives.Given as goal

abbrev pub invariant-loop-x : goal.invariant-loop-x
invariant-loop-x l = GoingTo l.fn.w (alts_from l.s l.left 0) l.w (alts_from l.s l.left l.x-index)
