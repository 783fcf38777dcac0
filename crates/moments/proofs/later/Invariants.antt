-- `moments::later` meets its contract. The loop's invariant: the lines before v are m ticks later, and the others as they were. Assumes nothing.
use mathlib.Core.Path.{◌≡◌}
use Prim.Native.Nat.{ℕ, ◌≤◌}
use lib.ListN.{get_or}
use Rattle.event_list.specs.Events.{later}
use Rattle.moments.specs.State.{nothing}
use Rattle.moments.proofs.Laws.{Upto, changed}
use Rattle.moments.proofs.later.Given as goal

abbrev pub invariant-loop-v : goal.invariant-loop-v
invariant-loop-v l =
    Upto l.plan l.s (changed l.plan l.fn.s (later l.m)) l.v × ((k : ℕ) → l.v ≤ k → get_or l.s k nothing ≡ get_or l.fn.s k nothing)
