-- `desks::judge_desk` meets its contract, stage by stage; the count fits, since the book and the plan have no fault. Assumes nothing.
use mathlib.Core.Path.{sym, ◌∙◌}
use Rattle.std.proofs.lemmas.Result.{err_from_is_err_and}
use Rattle.desks.proofs.Stages.{wrong_list, wrong_desk, both_right, book_first, desk_second, plan_third, own_few, own_fourth}
use Rattle.desks.proofs.judge_desk.Goals as goal
use Rattle.desks.proofs.judge_desk.Goals.{then-not-list_right-via-then-not-list_right, then-not-list_right-via-else-not-list_right+then-desk-gt1}

pub returns-in_err-check : goal.returns-in_err-check
returns-in_err-check c =
    let p = err_from_is_err_and c.from_residual.result c.from_residual.ensures.1 in
    rw (p.1, p.2) (book_first _ _ _ _ _ c.in_err-check.ensures)

pub returns-then-not-list_right : goal.returns-then-not-list_right
returns-then-not-list_right c =
    desk_second _ _ _ _ _ c.in_ok-check.ensures (elim c.then-not-list_right.branch [
      | then-not-list_right-via-then-not-list_right w ↦ wrong_list _ _ _ (sym c.list_right.ensures ∙ w.if-not-list_right.true)
      | then-not-list_right-via-else-not-list_right+then-desk-gt1 w ↦ wrong_desk _ _ _ w.if-desk-gt1.true
    ])

pub returns-in_err-check-2 : goal.returns-in_err-check-2
returns-in_err-check-2 c =
    let p = err_from_is_err_and c.from_residual-in_err-check-2.result c.from_residual-in_err-check-2.ensures.1 in
    rw (p.1, p.2) (plan_third _ _ _ _ _ c.in_ok-check.ensures (both_right _ _ _ (sym c.list_right.ensures ∙ c.if-not-list_right.false) c.if-desk-gt1.false) _ c.in_err-check-2.ensures)

pub examine_own-requires : goal.examine_own-requires
examine_own-requires c = own_few _ _ _ _ c.in_ok-check.ensures c.in_ok-check-2.ensures

pub returns : goal.returns
returns c = own_fourth _ _ _ _ _ c.in_ok-check.ensures (both_right _ _ _ (sym c.list_right.ensures ∙ c.if-not-list_right.false) c.if-desk-gt1.false) _ c.in_ok-check-2.ensures _ c.examine_own.ensures
