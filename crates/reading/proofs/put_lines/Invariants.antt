-- `reading::put_lines` meets its contract. The loop's invariant: what was put, and the tokens of the lines from x on, are all. Assumes nothing.
use Prim.Native.Nat.{◌+◌, ◌*◌, ◌≤◌}
use Rattle.reading.proofs.Whole.{Lines}
use Rattle.reading.proofs.put_lines.Given as goal

abbrev pub invariant-loop-x : goal.invariant-loop-x
invariant-loop-x l = (l.to ≤ l.at + 196608 * l.x) × Lines l.list l.initial.room l.room l.at l.to l.n l.x
