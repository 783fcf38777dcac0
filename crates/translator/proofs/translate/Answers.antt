-- `translator::translate` meets its contract: the sheet's own fault, a rule with too many alternatives, or what `finish` answers.
-- Assumes nothing.
use borrow.Author.Rules.{rules}
use Rattle.std.proofs.lemmas.Result.{err_from_is_err_and}
use Rattle.translator.proofs.Outcome.{bad_by, good_by, fitting, listed, too_many_lem}
use Rattle.translator.proofs.translate.Goals as goal

pub returns-in_err-check : goal.returns-in_err-check
returns-in_err-check c =
    let p = err_from_is_err_and c.from_residual.result c.from_residual.ensures.1 in
    rw (p.1, p.2) (bad_by _ _ _ c.in_err-check.ensures)

pub list_rules-requires : goal.list_rules-requires
list_rules-requires c = (fitting (good_by _ _ c.in_ok-check.ensures), (search rules, search rules))

pub finish-requires : goal.finish-requires
finish-requires c = listed _ (good_by _ _ c.in_ok-check.ensures) c.in-Ok.ensures c.number_at-rules.ensures.0

pub returns-in-Err : goal.returns-in-Err
returns-in-Err c = too_many_lem _ _ (good_by _ _ c.in_ok-check.ensures) _ c.in-Err.ensures.0 c.in-Err.ensures.1
