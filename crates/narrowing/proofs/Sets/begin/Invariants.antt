-- The invariant of `narrowing::Sets::begin`: what is kept is the table so far. Assumes nothing.
use mathlib.Core.Path.{◌≡◌}
use Rattle.narrowing.specs.First.{filled}
use Rattle.narrowing.specs.Lent.{Kept}
use Rattle.narrowing.proofs.Sets.begin.Given as goal

abbrev pub invariant-loop-t : goal.invariant-loop-t
invariant-loop-t l =
    Kept l.initial.self l.self × (l.self.table.now ≡ filled l.initial.self.tokens l.t l.initial.self.table.now)
