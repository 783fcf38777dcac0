-- The invariant of `writing::put_alternatives`: the rows of the items before this one are written, the others are left, and the numbers of the
-- next name and the next atom with those that are left are the whole. Assumes nothing.
use mathlib.Core.Path.{◌≡◌}
use Prim.Native.Nat.{◌+◌}
use Rattle.writing.proofs.Writing.{GoingTo}
use Rattle.writing.specs.Left.{name_count, atom_count, rows_left}
use Rattle.writing.proofs.put_alternatives.Given as goal

abbrev pub invariant-loop-item : goal.invariant-loop-item
invariant-loop-item l = (l.name + name_count l.s l.list l.item-index ≡ name_count l.s l.list 0)
    × ((l.atom + atom_count l.s l.list l.item-index ≡ atom_count l.s l.list 0)
    × GoingTo l.fn.w (rows_left l.s l.list 0 0 0) l.w (rows_left l.s l.list l.item-index l.name l.atom))
