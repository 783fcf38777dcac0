-- `closing::put_rules` meets its contract. The invariant: the rows of the rules passed so far are written, the others are left, and the next
-- alternative's number with those that are left is the whole. Assumes nothing.
use mathlib.Core.Path.{◌≡◌}
use Prim.Native.Nat.{◌+◌}
use lib.ListN.{length}
use Rattle.writing.proofs.Writing.{GoingTo}
use Rattle.closing.specs.Left.{alts_from, rules_from}
use Rattle.closing.proofs.put_rules.Given as goal

abbrev pub invariant-loop-x : goal.invariant-loop-x
invariant-loop-x l =
    (l.k + length (alts_from l.s l.left l.x-index) ≡ length (alts_from l.s l.left 0))
    × GoingTo l.fn.w (rules_from l.s l.left 0 0) l.w (rules_from l.s l.left l.x-index l.k)
