-- `desks::examine_own` meets its contract: rule by rule, those that are left are one fewer. Assumes nothing.
use Rattle.desks.proofs.Own.{desk_start, desk_end, desk_other, desk_fits, desk_met, desk_unmet}
use Rattle.desks.proofs.examine_own.Goals as goal
use Rattle.desks.proofs.examine_own.Goals.{then-word_at-desk+in-Ok, else-word_at-desk}

pub loop-rule-init : goal.loop-rule-init
loop-rule-init c = desk_start _ _ _ _ _ c.word_at-n.ensures c.requires

pub returns-in-Err : goal.returns-in-Err
returns-in-Err c = desk_unmet c.loop-rule.invariant c.loop-rule-test.true _ c.word_at.ensures c.if-word_at-desk.true _ c.in-Err.ensures

pub overflow_add-seen : goal.overflow_add-seen
overflow_add-seen c =
    record { fits = desk_fits c.loop-rule.invariant c.loop-rule-test.true _ c.word_at.ensures c.if-word_at-desk.true _ c.in-Ok.ensures }

pub loop-rule-preserved : goal.loop-rule-preserved
loop-rule-preserved c =
    let l = c.loop-rule.invariant in
    let more = c.loop-rule-test.true in
    elim c.if-word_at-desk.branch [
      | then-word_at-desk+in-Ok w ↦ rw w.seen-is (desk_met l more _ c.word_at.ensures w.if-word_at-desk.true _ w.in-Ok.ensures)
      | else-word_at-desk w ↦ rw w.seen-is (desk_other l more _ c.word_at.ensures w.if-word_at-desk.false)
    ]

pub returns : goal.returns
returns c = desk_end c.loop-rule.invariant c.loop-rule-test.false
