-- The invariant of `plan::check_tokens`: no line passed is wrong. Assumes nothing.
use Rattle.words.specs.Least.{Clear}
use Rattle.plan.specs.Fault.{line_wrong}
use Rattle.plan.proofs.check_tokens.Given as goal

abbrev pub invariant-loop-v : goal.invariant-loop-v
invariant-loop-v l = Clear (line_wrong l.book l.plan) l.v
