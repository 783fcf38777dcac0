-- The invariant of `bounds::put_times`: the first k times are right. Assumes nothing.
use Rattle.bounds.specs.Bounds.{times}
use Rattle.bounds.specs.Steps.{First}
use Rattle.bounds.proofs.put_times.Given as goal

abbrev pub invariant-loop-k : goal.invariant-loop-k
invariant-loop-k l = First l.w l.k (times l.x)
