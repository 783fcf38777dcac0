-- The invariant of `desks::examine_own`: what the desk's own rules come to is what those passed and the rest come to; the count fits, since that
-- of all rules does. Assumes nothing.
use Rattle.desks.proofs.Own.{OnDesk}
use Rattle.desks.proofs.examine_own.Given as goal

abbrev pub invariant-loop-rule : goal.invariant-loop-rule
invariant-loop-rule l = OnDesk l.b l.p l.desks l.desk l.n l.rule l.seen
