-- The invariant of `lines::line_end`: `end` is where token j starts, and no sum wraps. Assumes nothing.
use mathlib.Core.Path.{◌≡◌}
use Prim.Native.Nat.{◌*◌, ◌≤◌}
use Rattle.lines.specs.Lines.{start_of}
use Rattle.lines.proofs.line_end.Given as goal

abbrev pub invariant-loop-j : goal.invariant-loop-j
invariant-loop-j l = (l.end ≡ start_of l.plan l.v l.j) × (l.end ≤ 4294967296 * l.j)
