-- `sink::Sink::send_action` meets its contract: three words in a row, and in edition 2 a fourth. Assumes nothing.
use mathlib.Core.Path.{refl}
use native.Mathlib.Omega.{arith}
use Rattle.event_list.specs.Events.{action}
use Rattle.event_list.proofs.Sends.{then}
use Rattle.sink.proofs.Sends.{sends_as, wide-action, thin_action}
use Rattle.sink.proofs.Sink.send_action.Goals as goal

pub returns-then-edition-eq-WITH_JOBS : goal.returns-then-edition-eq-WITH_JOBS
returns-then-edition-eq-WITH_JOBS c =
    let a = c.args in
    let all = then (then (then c.send_word-a.ensures c.send_word-b.ensures) c.send_word-c.ensures) c.send_word-self.ensures in (
      sends_as (wide-action a.edition (action a.line a.value a.kind a.job) c.if-edition-eq-WITH_JOBS.true)
          record { list = refl; room = refl; words = all },
      omega (arith, all.place),
    )

pub returns : goal.returns
returns c =
    let a = c.args in
    let all = then (then c.send_word-a.ensures c.send_word-b.ensures) c.send_word-c.ensures in (
      sends_as (thin_action a.edition (action a.line a.value a.kind a.job) c.if-edition-eq-WITH_JOBS.false)
          record { list = refl; room = refl; words = all },
      omega (arith, all.place),
    )
