-- `marks::asks_early` meets its contract. The loop's invariant: the asks from number i on hold if all do. Assumes nothing.
use Prim.Native.Nat.{◌+◌, ◌-◌, ◌*◌}
use Rattle.marks.proofs.Sides.{Rests}
use Rattle.marks.proofs.asks_early.Given as goal

abbrev pub invariant-loop-i : goal.invariant-loop-i
invariant-loop-i l = Rests l.b l.a (l.a.asks - l.i) (l.a.ask + l.i * l.width)
