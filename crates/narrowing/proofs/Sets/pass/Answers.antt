-- `narrowing::Sets::pass` meets its contract, by the invariant in Invariants.antt. Assumes nothing.
use Rattle.narrowing.proofs.Steps.{passed-step}
use Rattle.narrowing.proofs.Tables.{kept_then}
use Rattle.narrowing.proofs.Sets.pass.Goals as goal

pub loop-t-preserved : goal.loop-t-preserved
loop-t-preserved c =
    let i = c.loop-t.invariant in
    let e = c.cut_step-same.ensures in
    (kept_then i.0 e.same, passed-step _ c.loop-t.t _ _ _ _ _ c.loop-t-test.true c.args.self.now.fits i.1 (rw i.0.tokens at e.once))
