-- `events_written::check` meets its contract: the book first, then the plan. Assumes nothing.
use mathlib.Core.Path.{sym, ◌∙◌}
use Rattle.std.proofs.lemmas.Result.{err_from_is_err_and}
use Rattle.answers.proofs.Stages.{or_refused, or_done}
use Rattle.event_list.specs.Answers.{write_fault}
use Rattle.events_written.proofs.check.Goals as goal

pub returns-in_err-check : goal.returns-in_err-check
unfolding write_fault
returns-in_err-check c =
    let p = err_from_is_err_and c.from_residual.result c.from_residual.ensures.1 in
    rw (p.1, p.2) (or_refused _ _ _ c.in_err-check.ensures)

pub returns : goal.returns
unfolding write_fault
returns c = c.check-2.ensures ∙ sym (or_done _ _ _ c.in_ok-check.ensures)
