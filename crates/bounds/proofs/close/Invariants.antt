-- The invariant of `bounds::close`: the table is raised through the times from k on. Assumes nothing.
use Prim.Native.Nat.{◌≤◌}
use Rattle.bounds.proofs.Raising.{Through}
use Rattle.bounds.proofs.close.Given as goal

abbrev pub invariant-loop-k : goal.invariant-loop-k
invariant-loop-k l = (1 ≤ l.k) × Through l.k l.initial.w l.w
