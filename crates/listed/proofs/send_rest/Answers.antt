-- `listed::send_rest` meets its contract: its loop keeps the invariant, and leaves what is promised. Assumes nothing.
use mathlib.Core.Path.{◌≡◌, ◌∙◌}
use native.Mathlib.Omega.{arith}
use Rattle.listed.proofs.Laws.{rest_words, sweeping_none, sweeping_step, sweeping_all, sweep-stop, sweep-none}
use Rattle.listed.proofs.send_rest.Goals as goal

pub loop-events-init : goal.loop-events-init
loop-events-init c = (omega arith, c.requires.2, sweeping_none _ _ _ _)

pub send_event-requires : goal.send_event-requires
send_event-requires c =
    let pre = c.requires in
    (omega (arith, c.loop-events.invariant.0, pre.0), pre.1, c.loop-events.invariant.1)

pub later-next-requires : goal.later-next-requires
later-next-requires c = (c.requires.1, c.loop-events.invariant.1)

pub returns-then-m-eq0 : goal.returns-then-m-eq0
unfolding rest_words
returns-then-m-eq0 c =
    let inv = c.loop-events.invariant in
    let p = c.args.plan.now in
    let all = sweeping_all inv.2 (sweep-stop _ _ _ (omega (arith, c.loop-events-test.true)) (c.soonest-m.ensures p) c.if-m-eq0.true) in
    (all.0, all.1, omega arith)

pub loop-events-preserved : goal.loop-events-preserved
loop-events-preserved c =
    let inv = c.loop-events.invariant in
    let p = c.args.plan.now in
    let sent = c.send_event.ensures in
    let next = c.later-next.ensures in (
      omega (arith, inv.0, sent.1),
      next.1,
      sweeping_step inv.2 c.loop-events-test.true (c.soonest-m.ensures p) c.if-m-eq0.false next.0 sent.0,
    )

pub returns : goal.returns
unfolding rest_words
returns c =
    let all = sweeping_all c.loop-events.invariant.2 (sweep-none _ _ (omega (arith, c.loop-events-test.false))) in
    let e : c.args.ticks ≡ c.loop-events.events = omega arith in
    (all.0, e ∙ all.1, omega arith)
