-- `book::check` meets its contract, stage by stage: the records are tested where the layout has no fault. Assumes nothing.
use borrow.Author.Rules.{rules}
use Rattle.std.proofs.lemmas.Result.{err_from_is_err_and}
use Rattle.book.proofs.Stages.{layout_first, tables-within, record_wrong_lem, records_right}
use Rattle.book.proofs.check.Goals as goal

pub returns-in_err-check : goal.returns-in_err-check
returns-in_err-check c =
    let p = err_from_is_err_and c.from_residual.result c.from_residual.ensures.1 in
    rw (p.1, p.2) (layout_first _ _ _ c.in_err-check.ensures)

pub first_table-t-requires : goal.first_table-t-requires
first_table-t-requires c =
    tables-within _ _ _ c.in_ok-check.ensures

pub first_bad-i-requires : goal.first_bad-i-requires
first_bad-i-requires c =
    (search rules, tables-within _ _ _ c.in_ok-check.ensures)

pub told_word-requires : goal.told_word-requires
told_word-requires c =
    (search rules, tables-within _ _ _ c.in_ok-check.ensures, search rules)

pub returns-then-t-lt6 : goal.returns-then-t-lt6
returns-then-t-lt6 c =
    record_wrong_lem _ _ _ c.in_ok-check.ensures _ _ _ c.first_table-t.ensures c.if-t-lt6.true c.first_bad-i.ensures.0 c.told_word.ensures.0

pub returns : goal.returns
returns c =
    records_right _ _ _ c.in_ok-check.ensures _ c.first_table-t.ensures c.if-t-lt6.false
