-- `sweep::moments` meets its contract. The loop's invariant: every line stands at the time, whose number is `at`, and the times before it are
-- listed (`Sweeping`). The measure is the number of tokens left, of which each turn ends one at least. Assumes nothing.
use mathlib.Core.Path.{◌≡◌}
use lib.ListN.{length}
use Rattle.sweep.proofs.At.{left_on}
use Rattle.sweep.proofs.Sweeping.{Sweeping}
use Rattle.sweep.proofs.moments.Given as goal

abbrev pub invariant-loop-next : goal.invariant-loop-next
invariant-loop-next l = Sweeping l.p l.times l.s.lines l.n l.at l.time l.next × (length l.times ≡ length l.initial.times)

abbrev pub decreases-loop-next : goal.decreases-loop-next
decreases-loop-next l = left_on l.s.lines l.n
