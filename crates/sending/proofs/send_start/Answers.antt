-- `sending::send_start` meets its contract. Assumes nothing.
use native.Mathlib.Omega.{arith}
use Rattle.sink.proofs.Sends.{sends_none, sends_as}
use Rattle.sending.proofs.Laws.{start_none, start-some}
use Rattle.sending.proofs.send_start.Goals as goal

pub send_token-requires : goal.send_token-requires
send_token-requires c =
    let pre = c.requires in (omega (arith, pre.0), omega (arith, pre.1.place))

pub returns-then-l-ne0 : goal.returns-then-l-ne0
returns-then-l-ne0 c =
    let a = c.args in
    let q = c.send_token.ensures in
    (sends_as (start-some a.plan.now a.l a.v c.if-l-ne0.true) q.0, q.1)

pub returns-else-l-ne0 : goal.returns-else-l-ne0
returns-else-l-ne0 c =
    let a = c.args in
    (sends_as (start_none a.plan.now a.l a.v c.if-l-ne0.false) (sends_none _), omega arith)
