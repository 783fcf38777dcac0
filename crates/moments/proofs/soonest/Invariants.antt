-- `moments::soonest` meets its contract. The loop's invariant: m is the soonest end of the lines from v on. Assumes nothing.
use mathlib.Core.Path.{◌≡◌}
use mathlib.Core.List.{List}
use Prim.Native.Nat.{ℕ, ◌-◌}
use Rattle.event_list.specs.Events.{soonest}
use Rattle.moments.specs.State.{lines_left}
use Rattle.moments.proofs.soonest.Given as goal

abbrev pub invariant-loop-v : goal.invariant-loop-v
invariant-loop-v l = (p : List ℕ) → l.m ≡ soonest l.most (lines_left p l.s (l.n - l.v) l.v)
