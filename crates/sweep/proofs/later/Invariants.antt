-- `sweep::later` meets its contract. The loop's invariant: each line passed is m ticks later, and the others stand where they stood. Assumes nothing.
use mathlib.Core.Path.{◌≡◌}
use Prim.Native.Nat.{ℕ, ◌≤◌}
use lib.ListN.{length}
use Rattle.sweep.specs.Stands.{line_at, Later}
use Rattle.sweep.proofs.later.Given as goal

abbrev pub invariant-loop-v : goal.invariant-loop-v
invariant-loop-v l =
    Later l.p l.v l.m l.initial.s.lines l.s.lines × ((u : ℕ) → l.v ≤ u → line_at l.s.lines u ≡ line_at l.initial.s.lines u)
    × (length l.s.lines ≡ 16)
