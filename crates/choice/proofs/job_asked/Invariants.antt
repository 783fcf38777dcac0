-- `choice::job_asked` meets its contract. The loop's invariant: the asks from number i on pass if all do. Assumes nothing.
use Prim.Native.Nat.{◌+◌, ◌-◌, ◌*◌}
use Rattle.choice.proofs.SoFar.{Rests}
use Rattle.choice.proofs.job_asked.Given as goal

abbrev pub invariant-loop-i : goal.invariant-loop-i
invariant-loop-i l = Rests l.b l.a l.k (l.a.asks - l.i) (l.a.ask + l.i * 6)
