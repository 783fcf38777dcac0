-- `reading::close` meets its contract. Assumes nothing.
use mathlib.Core.Path.{ap}
use mathlib.Core.Bool.{not}
use native.Mathlib.Omega.{arith}
use Rattle.reading.proofs.Laws.{closed_none, closed-none-long, closed-one, closed-one-long}
use Rattle.reading.proofs.close.Goals as goal

pub returns-then-not-closes : goal.returns-then-not-closes
returns-then-not-closes c =
    let a = c.args in
    let w = a.list.now in
    let shut = c.closes.ensures in
    let none = ap not c.if-not-closes.true in
    (closed_none w a.x a.p shut none, closed-none-long w a.x a.p shut none, omega arith, omega arith)

pub returns : goal.returns
returns c =
    let a = c.args in
    let w = a.list.now in
    let put = c.put_token-at.ensures in
    let some = ap not c.if-not-closes.false in (
      closed-one w a.x a.p c.closes.ensures some c.word_at-value.ensures c.action_job-job.ensures put.0,
      closed-one-long w a.x a.p c.closes.ensures _ some,
      omega arith,
      put.1,
    )
