-- `listed::send_rest` meets its contract. The loop's invariant: what was sent and counted, and the events that are left, are all.
-- Assumes nothing.
use Prim.Native.Nat.{◌+◌, ◌-◌, ◌*◌, ◌≤◌}
use Rattle.moments.specs.State.{lines_left, AllSmall}
use Rattle.listed.proofs.Laws.{Sweeping}
use Rattle.listed.proofs.send_rest.Given as goal

abbrev pub invariant-loop-events : goal.invariant-loop-events
invariant-loop-events l =
    (l.to.sent.at ≤ l.fn.to.sent.at + 130 * l.events)
    × AllSmall l.t
    × Sweeping l.fn.to l.to l.plan (lines_left l.plan l.initial.t l.n 0) l.ticks (lines_left l.plan l.t l.n 0) (l.ticks - l.events) l.events
