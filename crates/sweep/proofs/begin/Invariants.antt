-- `sweep::begin` meets its contract. The loop's invariant: each line passed has begun. Assumes nothing.
use mathlib.Core.Path.{◌≡◌}
use lib.ListN.{length}
use Rattle.sweep.specs.Stands.{Begun}
use Rattle.sweep.proofs.begin.Given as goal

abbrev pub invariant-loop-v : goal.invariant-loop-v
invariant-loop-v l = Begun l.p l.v l.s.lines × (length l.s.lines ≡ 16)
