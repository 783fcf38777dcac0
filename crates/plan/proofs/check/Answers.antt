-- `plan::check` meets its contract, stage by stage: the tokens are tested where the lines have no fault, and the lines' ends where the tokens have none. Assumes nothing.
use mathlib.Core.Path.{sym, ◌∙◌}
use Rattle.std.proofs.lemmas.Result.{err_from_is_err_and}
use Rattle.answers.proofs.Stages.{or_refused, or_done, done_number}
use Rattle.lines.proofs.Stages.{lines_inside}
use Rattle.plan.proofs.Stages.{by_lines}
use Rattle.plan.proofs.check.Goals as goal

pub returns-in_err-check : goal.returns-in_err-check
returns-in_err-check c =
    let p = err_from_is_err_and c.from_residual.result c.from_residual.ensures.1 in
    rw (p.1, p.2) (or_refused _ _ _ c.in_err-check.ensures ∙ sym (by_lines _ _))

pub check_tokens-requires : goal.check_tokens-requires
check_tokens-requires c = lines_inside _ _ (done_number _ _ c.in_ok-check.ensures)

pub returns-in_err-check_tokens : goal.returns-in_err-check_tokens
returns-in_err-check_tokens c =
    let p = err_from_is_err_and c.from_residual-in_err-check_tokens.result c.from_residual-in_err-check_tokens.ensures.1 in
    rw (p.1, p.2) (or_refused _ _ _ c.in_err-check_tokens.ensures ∙ sym (or_done _ _ _ c.in_ok-check.ensures) ∙ sym (by_lines _ _))

pub returns : goal.returns
returns c =
    c.check_ends.ensures
    ∙ sym (or_done _ _ _ c.in_ok-check_tokens.ensures)
    ∙ sym (or_done _ _ _ c.in_ok-check.ensures)
    ∙ sym (by_lines _ _)
