-- `sending::send_actions` meets its contract. The loop's invariant: what was sent and what happens on the lines from v on is all.
-- Assumes nothing.
use Prim.Native.Nat.{◌+◌, ◌*◌, ◌≤◌}
use Rattle.moments.specs.State.{happens}
use Rattle.sending.proofs.Laws.{Lined}
use Rattle.sending.proofs.send_actions.Given as goal

abbrev pub invariant-loop-v : goal.invariant-loop-v
invariant-loop-v l =
    (l.to.sent.at ≤ l.fn.to.sent.at + 8 * l.v) × Lined l.fn.to l.to l.plan l.s l.n (happens l.first l.m) l.v
