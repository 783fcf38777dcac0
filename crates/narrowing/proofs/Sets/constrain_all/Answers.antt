-- `narrowing::Sets::constrain_all` meets its contract, by the invariant in Invariants.antt. Assumes nothing.
use Rattle.narrowing.specs.Sheet.{constraints_of}
use Rattle.narrowing.proofs.Tables.{kept_then, rest_more, rest-done}
use Rattle.narrowing.proofs.Sets.constrain_all.Goals as goal

pub loop-i-preserved : goal.loop-i-preserved
loop-i-preserved c =
    let i = c.loop-i.invariant in
    let e = c.constrain_at.ensures in
    (kept_then i.0 e.same, rest_more _ _ _ _ _ _ c.loop-i.i _ _ c.loop-i-test.true i.1 (rw (i.0.tokens, ← c.requires.0) at e.table))

pub returns-clause-table : goal.returns-clause-table
unfolding constraints_of
returns-clause-table c = rest-done _ _ _ _ _ _ _ _ c.loop-i-test.false c.loop-i.invariant.1
