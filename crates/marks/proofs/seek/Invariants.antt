-- `marks::seek` meets its contract. The loop's invariant: only tokens of other values were passed over. Assumes nothing.
use Prim.Native.Nat.{◌+◌, ◌-◌, ◌*◌, ◌^◌, ◌≤◌, ◌<◌}
use Rattle.marks.specs.Marked.{Skipped}
use Rattle.marks.proofs.seek.Given as goal

abbrev pub invariant-loop-i : goal.invariant-loop-i
invariant-loop-i l = (l.place + 3 * (l.w.count - l.i) < 2 ^ 60) × (l.start + 4294967296 * (l.w.count - l.i) < 2 ^ 64) × Skipped l.p l.w (l.w.count - l.i) l.place l.start × (l.w.width ≤ 3)
