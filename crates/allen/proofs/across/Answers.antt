-- `allen::across` meets its contract: three orders, or two. Assumes nothing.
use Rattle.allen.proofs.Laws.{across-behind, across_crossing}
use Rattle.allen.proofs.across.Goals as goal

pub returns-then-starts-ends-eq4 : goal.returns-then-starts-ends-eq4
returns-then-starts-ends-eq4 c =
    across-behind _ _ _ _ _ _ _ c.order-starts.ensures.0 c.order-ends.ensures.0 c.order.ensures.0
    c.order-starts.ensures.1 c.order-ends.ensures.1 c.order.ensures.1 c.if-starts-ends-eq4.true

pub returns : goal.returns
returns c =
    across_crossing _ _ _ _ _ _ c.order-starts.ensures.0 c.order-ends.ensures.0
    c.order-starts.ensures.1 c.order-ends.ensures.1 c.if-starts-ends-eq4.false
