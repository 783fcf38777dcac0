-- `moments::count` meets its contract. The loop's invariant: what is counted and what happens on the lines to come is all. Assumes nothing.
use mathlib.Core.Path.{◌≡◌}
use mathlib.Core.List.{List}
use Prim.Native.Nat.{ℕ, ◌+◌, ◌*◌, ◌≤◌, ◌-◌}
use lib.ListN.{length}
use Rattle.event_list.specs.Events.{by_line}
use Rattle.moments.specs.State.{lines_left, happens}
use Rattle.moments.proofs.count.Given as goal

abbrev pub invariant-loop-line : goal.invariant-loop-line
invariant-loop-line l =
    (l.sum ≤ 2 * l.line-index)
    × ((p : List ℕ) → length (by_line (happens l.first l.m) 0 (lines_left p l.fn.s l.n 0)) ≡ l.sum + length (by_line (happens l.first l.m) l.line-index (lines_left p l.fn.s (l.n - l.line-index) l.line-index)))
