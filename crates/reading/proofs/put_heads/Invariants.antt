-- `reading::put_heads` meets its contract. The loop's invariant: what was put, and the heads of the lines from x on, are all. Assumes nothing.
use Prim.Native.Nat.{◌+◌, ◌*◌, ◌≤◌}
use Rattle.reading.proofs.Whole.{Heads}
use Rattle.reading.proofs.put_heads.Given as goal

abbrev pub invariant-loop-x : goal.invariant-loop-x
invariant-loop-x l = (l.before ≤ 65536 * l.x) × Heads l.list l.initial.room l.room l.at (l.at + 2 * l.x) l.n l.x l.before
