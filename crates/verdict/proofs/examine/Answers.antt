-- `verdict::examine` meets its contract: rule by rule, those that are left are one fewer. Assumes nothing.
use Rattle.verdict.proofs.Steps.{rules_start, rules_met, rules_fit, rules_unmet, rules_end}
use Rattle.verdict.proofs.examine.Goals as goal

pub loop-rule-init : goal.loop-rule-init
loop-rule-init c = rules_start _ _ _ _ _ c.word_at-n.ensures c.number_at-table.ensures.0

pub returns-in-Err : goal.returns-in-Err
returns-in-Err c = rules_unmet c.loop-rule.invariant c.loop-rule-test.true _ c.in-Err.ensures

pub overflow_add-seen : goal.overflow_add-seen
overflow_add-seen c = record { fits = rules_fit c.loop-rule.invariant c.loop-rule-test.true _ c.in-Ok.ensures c.requires }

pub loop-rule-preserved : goal.loop-rule-preserved
loop-rule-preserved c = rules_met c.loop-rule.invariant c.loop-rule-test.true _ c.in-Ok.ensures

pub returns : goal.returns
returns c = rules_end c.loop-rule.invariant c.loop-rule-test.false
