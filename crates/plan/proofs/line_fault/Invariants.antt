-- The invariant of `plan::line_fault`: `Along` before each token: no token passed is faulty, `start` is the sum of their durations, and
-- `set` is the successor set of the last one. Assumes nothing.
use Rattle.plan.proofs.Laws.{Along}
use Rattle.plan.proofs.line_fault.Given as goal

abbrev pub invariant-loop-token : goal.invariant-loop-token
invariant-loop-token l = Along l.book l.plan l.timeline l.token l.start.tick l.set
