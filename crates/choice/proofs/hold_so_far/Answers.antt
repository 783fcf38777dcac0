-- `choice::hold_so_far` meets its contract: an ask that passes leaves those behind it, and one that doesn't decides. Assumes nothing.
use mathlib.Core.Path.{sym, ◌∙◌}
use native.Mathlib.Omega.{arith}
use Rattle.choice.proofs.Laws.{so_far_none, so_far_next}
use Rattle.choice.proofs.hold_so_far.Goals as goal

pub returns-then-not-ask_passes : goal.returns-then-not-ask_passes
returns-then-not-ask_passes c =
    sym (c.loop-i.invariant ∙ so_far_next _ _ _ _ _ _ _ c.loop-i.i _ c.loop-i-test.true c.fifth_width-width.ensures.0 c.ask_passes.ensures ∙ rw c.if-not-ask_passes.true)

pub loop-i-preserved : goal.loop-i-preserved
loop-i-preserved c =
    c.loop-i.invariant ∙ so_far_next _ _ _ _ _ _ _ c.loop-i.i _ c.loop-i-test.true c.fifth_width-width.ensures.0 c.ask_passes.ensures ∙ rw c.if-not-ask_passes.false

pub returns : goal.returns
returns c = sym (c.loop-i.invariant ∙ so_far_none _ _ _ _ _ _ (omega arith))
