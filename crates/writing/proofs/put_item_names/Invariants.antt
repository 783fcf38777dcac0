-- The invariant of `writing::put_item_names`: the names before number i are written, the others are left. Assumes nothing.
use Prim.Native.Nat.{◌+◌, ◌*◌}
use Rattle.writing.proofs.Writing.{GoingTo}
use Rattle.writing.specs.Left.{item_names, name_words_from}
use Rattle.writing.proofs.put_item_names.Given as goal

abbrev pub invariant-loop-i : goal.invariant-loop-i
invariant-loop-i l = GoingTo l.fn.w (item_names l.s l.item) l.w (name_words_from l.s l.n l.i (l.first + 2 * l.i))
