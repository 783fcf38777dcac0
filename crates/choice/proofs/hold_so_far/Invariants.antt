-- `choice::hold_so_far` meets its contract. The loop's invariant: whether the asks pass is whether those from number i on do. Assumes nothing.
use mathlib.Core.Path.{◌≡◌}
use Prim.Native.Nat.{◌+◌, ◌-◌, ◌*◌}
use Rattle.choice.specs.Asked.{hold_so_far}
use Rattle.choice.proofs.hold_so_far.Given as goal

abbrev pub invariant-loop-i : goal.invariant-loop-i
invariant-loop-i l =
    hold_so_far l.b l.a l.c l.j l.a.asks l.a.ask ≡ hold_so_far l.b l.a l.c l.j (l.a.asks - l.i) (l.a.ask + l.i * l.width)
