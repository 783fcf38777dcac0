-- `listed::send_events` meets its contract: the first event, and then the rest. Assumes nothing.
use mathlib.Core.Path.{sym, ap, ◌∙◌}
use mathlib.Core.List.{flat_map}
use native.Mathlib.Omega.{arith}
use lib.ListN.{length}
use Rattle.words.specs.Words.{word}
use Rattle.event_list.specs.Words.{event_words}
use Rattle.event_list.specs.Plans.{plan_lines}
use Rattle.sink.proofs.Sends.{sends_none, sends_as}
use Rattle.listed.proofs.Laws.{ticks_end, lines_start, events_none, whole_sent, whole-counted}
use Rattle.listed.proofs.send_events.Goals as goal

pub begin-s-requires : goal.begin-s-requires
begin-s-requires c =
    c.requires.1.few

pub send_event-requires : goal.send_event-requires
send_event-requires c =
    (omega (arith, c.requires.0), c.requires.1.few, c.begin-s.ensures.1)

pub send_rest-rest-requires : goal.send_rest-rest-requires
send_rest-rest-requires c =
    (omega (arith, c.send_event.ensures.1, c.requires.0), c.requires.1.few, c.begin-s.ensures.1)

pub overflow_add-result : goal.overflow_add-result
overflow_add-result c =
    let ticks = ticks_end c.args.plan.now _ _ c.requires.1 c.plan_end-ticks.ensures in
    omega (arith, c.send_rest-rest.ensures.2, ticks, c.requires.1.ticks)

pub overflow_cast-ticks : goal.overflow_cast-ticks
overflow_cast-ticks c =
    let ready = c.requires.1 in
    record { fits = omega (arith, ticks_end c.args.plan.now _ _ ready c.plan_end-ticks.ensures, ready.ticks) }

pub returns-then-ticks-eq0 : goal.returns-then-ticks-eq0
unfolding flat_map
returns-then-ticks-eq0 c =
    let p = c.args.plan.now in
    let zero = events_none (plan_lines p) (sym (ticks_end p _ _ c.requires.1 c.plan_end-ticks.ensures) ∙ c.if-ticks-eq0.true) in
    (sends_as (sym (ap (flat_map (event_words (word p 0))) zero)) (sends_none _), sym (ap length zero), omega arith)

pub returns : goal.returns
returns c =
    let p = c.args.plan.now in
    let ready = c.requires.1 in
    let ticks = ticks_end p _ _ ready c.plan_end-ticks.ensures in
    let same = lines_start p _ _ ready c.begin-s.ensures.0 in
    let some = c.if-ticks-eq0.false in
    let q = c.send_rest-rest.ensures in (
      whole_sent p same ticks some c.send_event.ensures.0 q.0,
      whole-counted same ticks some q.1,
      omega (arith, q.2, ready.ticks, ticks),
    )
