-- The invariant of `writing::count_all`: the sums so far and those of the items that are left are the whole, and the sums fit. Assumes nothing.
use mathlib.Core.Path.{◌≡◌}
use Prim.Native.Nat.{◌+◌, ◌*◌, ◌≤◌}
use Rattle.writing.specs.Left.{name_count, atom_count}
use Rattle.writing.proofs.count_all.Given as goal

abbrev pub invariant-loop-item : goal.invariant-loop-item
invariant-loop-item l = (l.names ≤ 4294967296 * l.item-index)
    × ((l.atoms ≤ 17179869184 * l.item-index)
    × ((l.names + name_count l.s l.list l.item-index ≡ name_count l.s l.list 0)
    × (l.atoms + atom_count l.s l.list l.item-index ≡ atom_count l.s l.list 0)))
