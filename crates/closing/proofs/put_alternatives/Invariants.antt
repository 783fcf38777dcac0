-- `closing::put_alternatives` meets its contract. The invariant: the rows of the alternatives passed so far are written, the others are left, and
-- the numbers of the next name and the next atom with those that are left are the whole. Assumes nothing.
use mathlib.Core.Path.{◌≡◌}
use Prim.Native.Nat.{◌+◌}
use Rattle.writing.proofs.Writing.{GoingTo}
use Rattle.closing.specs.Left.{total_from, rows_from}
use Rattle.closing.proofs.put_alternatives.Given as goal

abbrev pub invariant-loop-a : goal.invariant-loop-a
invariant-loop-a l =
    (l.name + total_from l.s l.alts 1 l.a-index ≡ total_from l.s l.alts 1 0) × (l.atom + total_from l.s l.alts 3 l.a-index ≡ total_from l.s l.alts 3 0)
    × GoingTo l.fn.w (rows_from l.s l.alts 0 0 0) l.w (rows_from l.s l.alts l.a-index l.name l.atom)
