-- The invariant of `writing::put_names`: the names of the items before this one are written, the others are left. Assumes nothing.
use Rattle.writing.proofs.Writing.{GoingTo}
use Rattle.writing.specs.Left.{names_left}
use Rattle.writing.proofs.put_names.Given as goal

abbrev pub invariant-loop-item : goal.invariant-loop-item
invariant-loop-item l = GoingTo l.fn.w (names_left l.s l.list 0) l.w (names_left l.s l.list l.item-index)
