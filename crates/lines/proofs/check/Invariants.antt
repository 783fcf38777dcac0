-- The invariant of `lines::check`: no word passed is wrong. Assumes nothing.
use Rattle.words.specs.Least.{Clear}
use Rattle.lines.specs.Fault.{head_wrong}
use Rattle.lines.proofs.check.Given as goal

abbrev pub invariant-loop-k : goal.invariant-loop-k
invariant-loop-k l = Clear (head_wrong l.book l.plan) l.k
