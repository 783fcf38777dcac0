-- The invariant of `lines::check_ends`: no line passed ends elsewhere. Assumes nothing.
use Rattle.words.specs.Least.{Clear}
use Rattle.lines.specs.Ends.{ends_apart}
use Rattle.lines.proofs.check_ends.Given as goal

abbrev pub invariant-loop-v : goal.invariant-loop-v
invariant-loop-v l = Clear (ends_apart l.plan) l.v
