-- `plan::line_fault` meets its contract, by the invariant in Invariants.antt. Assumes nothing.
use mathlib.Core.Path.{refl, sym, ◌∙◌}
use native.Mathlib.Omega.{arith}
use Rattle.plan.proofs.Laws.{read, words_there, along_none, along_more, first_unknown, first_outside, first_breaks, first_late, faultless}
use Rattle.plan.proofs.line_fault.Goals as goal

pub loop-token-init : goal.loop-token-init
loop-token-init c = along_none _ _ _

-- the token's words stand inside the plan
pub bounds-plan-at : goal.bounds-plan-at
bounds-plan-at c =
    let there = words_there _ _ _ _ c.line_of-line.ensures c.requires _ _ _ c.loop-token-test.true c.token_width-width.ensures.0 c.words_of.ensures.0 in
    omega (arith, there)

pub returns-in_default : goal.returns-in_default
returns-in_default c =
    let r = read _ _ _ _ c.line_of-line.ensures _ _ _ _ _ _ c.token_width-width.ensures.0 c.words_of.ensures.0 refl refl (sym c.in_default.is ∙ c.value_of.ensures) in
    first_unknown _ _ _ _ _ _ _ _ _ c.loop-token.invariant c.loop-token-test.true c.line_of-line.ensures.tokens r

pub returns-then-outside : goal.returns-then-outside
returns-then-outside c =
    let r = read _ _ _ _ c.line_of-line.ensures _ _ _ _ _ _ c.token_width-width.ensures.0 c.words_of.ensures.0 refl refl (sym c.in-Some.is ∙ c.value_of.ensures) in
    first_outside _ _ _ _ _ _ _ _ _ c.loop-token.invariant c.loop-token-test.true c.line_of-line.ensures.tokens _ r (sym c.outside.ensures ∙ c.if-outside.true)

pub returns-then-breaks : goal.returns-then-breaks
returns-then-breaks c =
    let r = read _ _ _ _ c.line_of-line.ensures _ _ _ _ _ _ c.token_width-width.ensures.0 c.words_of.ensures.0 refl refl (sym c.in-Some.is ∙ c.value_of.ensures) in
    first_breaks _ _ _ _ _ _ _ _ _ c.loop-token.invariant c.loop-token-test.true c.line_of-line.ensures.tokens _ r (sym c.outside.ensures ∙ c.if-outside.false)
    (sym c.breaks.ensures ∙ c.if-breaks.true)

pub returns-in_default-plus : goal.returns-in_default-plus
returns-in_default-plus c =
    let r = read _ _ _ _ c.line_of-line.ensures _ _ _ _ _ _ c.token_width-width.ensures.0 c.words_of.ensures.0 refl refl (sym c.in-Some.is ∙ c.value_of.ensures) in
    first_late _ _ _ _ _ _ _ _ _ c.loop-token.invariant c.loop-token-test.true c.line_of-line.ensures.tokens _ r (sym c.outside.ensures ∙ c.if-outside.false)
    (sym c.breaks.ensures ∙ c.if-breaks.false) (sym c.plus.ensures ∙ c.in_default-plus.is)

pub loop-token-preserved : goal.loop-token-preserved
loop-token-preserved c =
    let r = read _ _ _ _ c.line_of-line.ensures _ _ _ _ _ _ c.token_width-width.ensures.0 c.words_of.ensures.0 refl refl (sym c.in-Some.is ∙ c.value_of.ensures) in
    along_more _ _ _ _ _ _ _ _ _ c.loop-token.invariant c.loop-token-test.true c.line_of-line.ensures.tokens _ r (sym c.outside.ensures ∙ c.if-outside.false)
    (sym c.breaks.ensures ∙ c.if-breaks.false) _ (sym c.plus.ensures ∙ c.in-Some-plus.is)

pub returns : goal.returns
returns c =
    faultless _ _ _ _ _ _ _ c.loop-token.invariant (omega arith) (omega arith) c.line_of-line.ensures.tokens
