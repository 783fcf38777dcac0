-- The invariant of `writing::put_item_atoms`: the atoms of the constraints before number i are written, the others are left, with the digits of
-- the code for their relations. Assumes nothing.
use Prim.Native.Nat.{◌+◌, ◌*◌}
use Rattle.writing.proofs.Writing.{GoingTo}
use Rattle.writing.specs.Left.{item_atoms, atom_words_from}
use Rattle.writing.proofs.put_item_atoms.Given as goal

abbrev pub invariant-loop-i : goal.invariant-loop-i
invariant-loop-i l = GoingTo l.fn.w (item_atoms l.s l.item) l.w (atom_words_from l.s l.k l.i (l.first + 3 * l.i) l.code)
