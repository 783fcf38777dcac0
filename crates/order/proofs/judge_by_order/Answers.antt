-- `order::judge_by_order` meets its contract, stage by stage. Assumes nothing.
use mathlib.Core.Path.{sym, ◌∙◌}
use Rattle.std.proofs.lemmas.Result.{err_from_is_err_and}
use Rattle.order.proofs.Stages.{book_first, order_second, plan_third, swept, few, rules_fourth}
use Rattle.order.proofs.judge_by_order.Goals as goal

pub returns-in_err-check : goal.returns-in_err-check
returns-in_err-check c =
    let p = err_from_is_err_and c.from_residual.result c.from_residual.ensures.1 in
    rw (p.1, p.2) (book_first _ _ _ c.in_err-check.ensures)

pub returns-then-not-all_order : goal.returns-then-not-all_order
returns-then-not-all_order c = order_second _ _ _ c.in_ok-check.ensures (sym c.all_order.ensures ∙ c.if-not-all_order.true)

pub returns-in_err-check-2 : goal.returns-in_err-check-2
returns-in_err-check-2 c =
    let p = err_from_is_err_and c.from_residual-in_err-check-2.result c.from_residual-in_err-check-2.ensures.1 in
    rw (p.1, p.2)
    (plan_third _ _ _ c.in_ok-check.ensures (sym c.all_order.ensures ∙ c.if-not-all_order.false) _ c.in_err-check-2.ensures)

pub examine_ranked-requires : goal.examine_ranked-requires
examine_ranked-requires c = (
  swept _ _ _ c.in_ok-check.ensures (sym c.all_order.ensures ∙ c.if-not-all_order.false) _ c.in_ok-check-2.ensures,
  few _ _ _ c.in_ok-check.ensures (sym c.all_order.ensures ∙ c.if-not-all_order.false) _ c.in_ok-check-2.ensures,
)

pub returns : goal.returns
returns c =
    rules_fourth _ _ _ c.in_ok-check.ensures (sym c.all_order.ensures ∙ c.if-not-all_order.false) _ c.in_ok-check-2.ensures
    _ c.examine_ranked.ensures
