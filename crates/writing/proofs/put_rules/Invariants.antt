-- The invariant of `writing::put_rules`: the rows of the rules before i are written, the others are left, and the number of the next alternative
-- with those that are left is the whole. Assumes nothing.
use mathlib.Core.Path.{◌≡◌}
use Prim.Native.Nat.{◌+◌, ◌*◌, ◌-◌}
use lib.ListN.{length}
use Rattle.layout.specs.Layout.{count, offset}
use Rattle.writing.proofs.Writing.{GoingTo}
use Rattle.listing.specs.Items.{gather, rule_items, all_items}
use Rattle.writing.specs.Left.{rules_left}
use Rattle.writing.proofs.put_rules.Given as goal

abbrev pub invariant-loop-i : goal.invariant-loop-i
invariant-loop-i l = (l.k + length (gather (rule_items l.s) 4 (count l.s 2 - l.i) (l.table + 4 * l.i)) ≡ length (all_items l.s))
    × GoingTo l.fn.w (rules_left l.s (count l.s 2) 0 (offset l.s 2) 0) l.w (rules_left l.s (count l.s 2) l.i (l.table + 4 * l.i) l.k)
