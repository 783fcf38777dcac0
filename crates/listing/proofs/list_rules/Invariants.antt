-- The invariant of `listing::list_rules`: no rule before i has too many alternatives; their items and their numbers are
-- listed, and the others are left. Assumes nothing.
use mathlib.Core.Path.{◌≡◌}
use Prim.Native.Nat.{◌+◌, ◌*◌, ◌-◌, ◌≤◌}
use Rattle.words.specs.Runs.{run}
use Rattle.words.specs.Least.{first}
use Rattle.layout.specs.Layout.{count, offset}
use Rattle.listing.specs.Expand.{too_many}
use Rattle.listing.proofs.Going.{Going}
use Rattle.listing.specs.Items.{gather, rule_items, all_items, rule_for, rules_by}
use Rattle.listing.specs.Listed.{sizes_from}
use Rattle.listing.proofs.list_rules.Given as goal

abbrev pub invariant-loop-i : goal.invariant-loop-i
invariant-loop-i l = (l.n ≤ 64 * l.i)
    × ((first too_many (rules_by l.s) ≡ l.i + first too_many (run (rule_for l.s) 4 (l.rules - l.i) (l.table + 4 * l.i)))
    × (Going l.initial.out 0 (all_items l.s) l.out l.n (gather (rule_items l.s) 4 (l.rules - l.i) (l.table + 4 * l.i))
    × Going l.initial.numbers 0 (sizes_from l.s (count l.s 2) (offset l.s 2)) l.numbers l.i (sizes_from l.s (l.rules - l.i) (l.table + 4 * l.i))))
