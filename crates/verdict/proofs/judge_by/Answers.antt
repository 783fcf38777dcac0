-- `verdict::judge_by` meets its contract, stage by stage; the count fits, since the book and the plan have no fault. Assumes nothing.
use Rattle.std.proofs.lemmas.Result.{err_from_is_err_and}
use Rattle.verdict.proofs.Stages.{book_first, plan_second, rules_few, rules_third}
use Rattle.verdict.proofs.judge_by.Goals as goal

pub returns-in_err-check : goal.returns-in_err-check
returns-in_err-check c =
    let p = err_from_is_err_and c.from_residual.result c.from_residual.ensures.1 in
    rw (p.1, p.2) (book_first _ _ _ _ c.in_err-check.ensures)

pub returns-in_err-check-2 : goal.returns-in_err-check-2
returns-in_err-check-2 c =
    let p = err_from_is_err_and c.from_residual-in_err-check-2.result c.from_residual-in_err-check-2.ensures.1 in
    rw (p.1, p.2) (plan_second _ _ _ _ c.in_ok-check.ensures _ c.in_err-check-2.ensures)

pub examine-requires : goal.examine-requires
examine-requires c = rules_few _ _ _ _ c.in_ok-check.ensures _ c.in_ok-check-2.ensures

pub returns : goal.returns
returns c = rules_third _ _ _ _ c.in_ok-check.ensures _ c.in_ok-check-2.ensures _ c.examine.ensures
