-- `sending::send_event` meets its contract. Assumes nothing.
use borrow.Author.Rules.{rules}
use mathlib.Core.Path.{refl, sym}
use native.Mathlib.Omega.{arith}
use Rattle.words.specs.Words.{word}
use Rattle.sink.proofs.Sends.{sends_then, sends_as, sends_place}
use Rattle.sending.proofs.Laws.{event_as}
use Rattle.sending.proofs.send_event.Goals as goal

pub send-requires-2 : goal.send-requires-2
send-requires-2 c = omega (arith, sends_place c.send.ensures, c.requires.0)

pub send_actions-requires : goal.send_actions-requires
send_actions-requires c =
    let pre = c.requires in
    (omega (arith, sends_place c.send.ensures, sends_place c.send-2.ensures, pre.0), omega (arith, pre.1), pre.2)

pub returns : goal.returns
returns c =
    let a = c.args in
    let p = a.plan.now in
    let d = c.send.ensures in
    let k = c.send-2.ensures in
    let q = c.send_actions.ensures in
    let all = sends_as (event_as (word p 0) a.m _ _ (c.count-count.ensures.0 p)) (sends_then (sends_then d k) q.0) in
    let same = sym all.room in
    let stored = all.words.stored in (
      record { list = refl; room = refl; words = record { stored = search rules; place = all.words.place; same = all.words.same } },
      omega (arith, sends_place d, sends_place k, q.1),
    )
