-- `verdict::survey` meets its contract: a rule without trigger is met, or not, for nobody, and counts 1. Assumes nothing.
use native.Mathlib.Omega.{arith}
use Rattle.verdict.proofs.Steps.{bare-met, bare-unmet}
use Rattle.verdict.proofs.survey.Goals as goal

pub met-met-requires : goal.met-met-requires
met-met-requires c = (c.plan_end.ensures, c.forget.ensures _ _ _ _ _)

pub returns-then-met : goal.returns-then-met
returns-then-met c =
    bare-met _ _ _ _ (omega arith) _ _ _ c.word_at-2.ensures c.word_at-n.ensures c.nobody.ensures _ c.met-met.ensures.0 c.if-met.true

pub returns-else-met : goal.returns-else-met
returns-else-met c =
    bare-unmet _ _ _ _ (omega arith) _ _ _ c.word_at-2.ensures c.word_at-n.ensures c.nobody.ensures _ c.met-met.ensures.0 c.if-met.false
