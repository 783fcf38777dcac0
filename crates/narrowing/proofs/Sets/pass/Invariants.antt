-- The invariant of `narrowing::Sets::pass`: what is kept is the pass so far. Assumes nothing.
use Rattle.narrowing.specs.Lent.{Kept}
use Rattle.narrowing.specs.Passes.{Passed}
use Rattle.narrowing.proofs.Sets.pass.Given as goal

abbrev pub invariant-loop-t : goal.invariant-loop-t
invariant-loop-t l =
    Kept l.initial.self l.self × Passed l.initial.self.tokens l.t l.initial.self.table.now l.self.table.now l.same
