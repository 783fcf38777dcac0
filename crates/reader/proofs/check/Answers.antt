-- `reader::check` meets its contract, stage by stage: the book, the plan, the line. Assumes nothing.
use mathlib.Core.Path.{sym, ◌∙◌}
use native.Mathlib.Omega.{arith}
use Rattle.std.proofs.lemmas.Result.{err_from_is_err_and}
use Rattle.answers.proofs.Stages.{or_refused, or_done, done_number}
use Rattle.reader.specs.Opening.{open_fault}
use Rattle.reader.proofs.Opening.{good_opened, line_refused}
use Rattle.reader.proofs.check.Goals as goal

pub returns-in_err-check : goal.returns-in_err-check
unfolding open_fault
returns-in_err-check c =
    let p = err_from_is_err_and c.from_residual.result c.from_residual.ensures.1 in
    rw (p.1, p.2) (or_refused _ _ _ c.in_err-check.ensures)

pub returns-in_err-check-2 : goal.returns-in_err-check-2
unfolding open_fault
returns-in_err-check-2 c =
    let p = err_from_is_err_and c.from_residual-in_err-check-2.result c.from_residual-in_err-check-2.ensures.1 in
    rw (p.1, p.2) (or_refused _ _ _ c.in_err-check-2.ensures ∙ sym (or_done _ _ _ c.in_ok-check.ensures))

pub returns-then-word_at-line : goal.returns-then-word_at-line
returns-then-word_at-line c =
    sym (line_refused _ _ _ (done_number _ _ c.in_ok-check.ensures) (done_number _ _ c.in_ok-check-2.ensures)
    (omega (arith, c.word_at.ensures, c.if-word_at-line.true)))

pub returns : goal.returns
returns c =
    sym (good_opened _ _ _ (done_number _ _ c.in_ok-check.ensures) (done_number _ _ c.in_ok-check-2.ensures)
    (omega (arith, c.word_at.ensures, c.if-word_at-line.false)))
