-- `sending::send_on` meets its contract. Assumes nothing.
use mathlib.Core.Path.{ap}
use mathlib.Core.List.{flat_map}
use native.Mathlib.Omega.{arith}
use Rattle.words.specs.Words.{word}
use Rattle.event_list.specs.Events.{Line, start_on}
use Rattle.event_list.specs.Words.{action_words}
use Rattle.sink.proofs.Sends.{sends_none, sends_then, sends_as}
use Rattle.sending.proofs.Laws.{on_first, on_none, on_apart, on_end}
use Rattle.sending.proofs.send_on.Goals as goal

pub send_token-requires : goal.send_token-requires
send_token-requires c =
    let pre = c.requires in
    (omega (arith, pre.0), omega (arith, pre.1.place))

pub send_start-requires-2 : goal.send_start-requires-2
send_start-requires-2 c =
    (omega (arith, c.send_token.ensures.1, c.requires.0), c.next-next.ensures.1)

pub returns-then-first : goal.returns-then-first
returns-then-first c =
    let a = c.args in
    let q = c.send_start.ensures in
    (sends_as (on_first a.plan.now a.l a.v a.first a.m c.if-first.true) q.0, omega (arith, q.1))

pub returns-then-l-eq0 : goal.returns-then-l-eq0
returns-then-l-eq0 c =
    let a = c.args in
    (sends_as (on_none a.plan.now a.l a.v a.first a.m c.if-first.false c.if-l-eq0.true) (sends_none _), omega arith)

pub returns-then-l-m : goal.returns-then-l-m
returns-then-l-m c =
    let a = c.args in (
      sends_as (on_apart a.plan.now a.l a.v a.first a.m c.if-first.false c.if-l-eq0.false c.if-l-m.true) (sends_none _),
      omega arith,
    )

pub returns : goal.returns
returns c =
    let a = c.args in
    let p = a.plan.now in
    let e = c.send_token.ensures in
    let q = c.send_start-2.ensures in
    let start = ap (λ (l : Line). flat_map (action_words (word p 0)) (start_on a.v l)) c.next-next.ensures.0 in (
      sends_as (on_end p a.l a.v a.first a.m c.if-first.false c.if-l-eq0.false c.if-l-m.false)
          (sends_then e.0 (sends_as start q.0)),
      omega (arith, e.1, q.1),
    )
