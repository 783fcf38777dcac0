-- The invariant of `bounds::least_time`: best is the least that the bounds from the first i times allow. Assumes nothing.
use Rattle.bounds.specs.Bounds.{times}
use Rattle.bounds.specs.Steps.{Reached}
use Rattle.bounds.proofs.least_time.Given as goal

abbrev pub invariant-loop-i : goal.invariant-loop-i
invariant-loop-i l = Reached l.w l.k l.i (times l.x) l.best
