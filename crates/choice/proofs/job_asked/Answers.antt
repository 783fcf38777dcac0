-- `choice::job_asked` meets its contract: the ask that ties the name is one of those that all have to pass. Assumes nothing.
use native.Mathlib.Omega.{arith}
use Rattle.choice.proofs.SoFar.{rests_after, tie_here, tie_asked}
use Rattle.choice.proofs.job_asked.Goals as goal

pub returns-then-is_some : goal.returns-then-is_some
returns-then-is_some c =
    let q = tie_asked _ _ c.if-a-k.false in
    tie_here _ _ _ _ _ q.0 q.1 _ _ (λ z. omega arith) c.loop-i.invariant c.tie_at-job.ensures

pub loop-i-preserved : goal.loop-i-preserved
loop-i-preserved c =
    rests_after _ _ _ _ _ c.loop-i.i (tie_asked _ _ c.if-a-k.false).0 c.loop-i-test.true c.loop-i.invariant
