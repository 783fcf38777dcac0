-- `reading::next` meets its contract. Assumes nothing.
use mathlib.Core.Path.{refl, ap, ◌∙◌}
use Prim.Native.Nat.{◌+◌}
use Rattle.event_list.specs.Reading.{add_ticks}
use Rattle.reading.proofs.Laws.{step-event, step-ends, step_other}
use Rattle.reading.proofs.next.Goals as goal

pub returns-then-p-eq0 : goal.returns-then-p-eq0
returns-then-p-eq0 c =
    let a = c.args in
    let ticks = c.add_ticks.ensures ∙ ap (add_ticks a.p.ticks) c.word_at-then-p-eq0.ensures in
    step-event _ _ a.p c.if-p-eq0.true _ refl c.word_at.ensures ticks

pub returns-then-ends_here : goal.returns-then-ends_here
returns-then-ends_here c =
    let a = c.args in
    let width = ap (λ k. a.p.place + k) c.action_width-width.ensures.0 in
    step-ends _ _ _ c.if-p-eq0.false _ width refl _ c.ends_here.ensures c.if-ends_here.true refl

pub returns : goal.returns
returns c =
    let a = c.args in
    let width = ap (λ k. a.p.place + k) c.action_width-width.ensures.0 in
    step_other _ _ _ c.if-p-eq0.false _ width refl _ c.ends_here.ensures c.if-ends_here.false refl
