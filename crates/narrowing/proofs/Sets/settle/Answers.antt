-- `narrowing::Sets::settle` meets its contract, by the invariant in Invariants.antt. Assumes nothing.
use Rattle.narrowing.proofs.Steps.{cut_then}
use Rattle.narrowing.proofs.Tables.{kept_then}
use Rattle.narrowing.proofs.Ends.{settled}
use Rattle.narrowing.proofs.Sets.settle.Goals as goal

pub returns-then-pass-clause-table : goal.returns-then-pass-clause-table
returns-then-pass-clause-table c =
    let i = c.loop.invariant in
    settled c.args.self.now.fits i.1 (rw i.0.tokens at c.pass.ensures.once) c.if-pass.true

pub loop-preserved : goal.loop-preserved
loop-preserved c =
    let i = c.loop.invariant in
    let e = c.pass.ensures in
    (kept_then i.0 e.same, cut_then i.1 (rw i.0.tokens at e.once).cut)
