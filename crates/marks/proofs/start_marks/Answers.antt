-- `marks::start_marks` meets its contract: a name is marked after those before it, or there is no choice. Assumes nothing.
use mathlib.Core.Path.{refl, ◌∙◌}
use native.Mathlib.Omega.{arith}
use Rattle.marks.proofs.Marks.{marked_none, marked_full, start_none, start-next}
use Rattle.marks.proofs.start_marks.Goals as goal

pub loop-k-init : goal.loop-k-init
loop-k-init c = marked_none _ _ _ _ _ _ c.requires.0 (c.triggered.ensures ∙ rw c.requires.2) refl

pub returns-then-not-advance : goal.returns-then-not-advance
returns-then-not-advance c =
    let w = c.tokens_of-w in
    start_none _ _ _ c.args.t _ _ _ _ _ _ _ c.loop-k-test.true w.ensures.0 (omega (arith, w.ensures.1, w.ensures.2)) (omega (arith, w.ensures.2))
    c.advance.ensures c.if-not-advance.true

pub loop-k-preserved : goal.loop-k-preserved
loop-k-preserved c =
    let w = c.tokens_of-w in
    start-next _ _ _ _ _ _ _ _ _ _ _ c.loop-k-test.true w.ensures.0 (omega (arith, w.ensures.1, w.ensures.2)) (omega (arith, w.ensures.2))
    c.advance.ensures c.loop-k.invariant c.if-not-advance.false

pub returns : goal.returns
returns c = marked_full _ _ _ _ _ _ _ c.loop-k-test.false c.loop-k.invariant
