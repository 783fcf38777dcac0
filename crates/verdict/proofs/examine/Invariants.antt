-- The invariant of `verdict::examine`: what the rules come to is what the passed ones and the rest come to. Assumes nothing.
use Rattle.verdict.proofs.Steps.{OnRules}
use Rattle.verdict.proofs.examine.Given as goal

abbrev pub invariant-loop-rule : goal.invariant-loop-rule
invariant-loop-rule l = OnRules l.e l.b l.p l.n l.table l.rule l.seen
