-- The invariant of `narrowing::Sets::constrain_all`: what is left to do is the rest of the constraints. Assumes nothing.
use Rattle.narrowing.specs.Lent.{Kept}
use Rattle.narrowing.proofs.Tables.{Rest}
use Rattle.narrowing.proofs.Sets.constrain_all.Given as goal

abbrev pub invariant-loop-i : goal.invariant-loop-i
invariant-loop-i l =
    Kept l.initial.self l.self × Rest l.s l.p.tokens l.p.first l.p.constraints l.p.place l.initial.self.table.now l.i l.self.table.now
