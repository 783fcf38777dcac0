-- `narrowing::narrow` meets its contract: the sheet's own fault, 27, 25, or the table begun, cut by the constraints and then by composition.
-- Assumes nothing.
use mathlib.Core.Path.{sym}
use native.Mathlib.Omega.{arith}
use borrow.Author.Rules.{rules}
use Rattle.answers.proofs.Stages.{done_number}
use Rattle.narrowing.proofs.Tables.{kept_then}
use Rattle.narrowing.proofs.Sheets.{bad_by, no_alternative_lem, read, seats_of, short_of, done_of}
use Rattle.narrowing.proofs.narrow.Goals as goal

pub returns-in_err-check : goal.returns-in_err-check
returns-in_err-check c =
    search (rules, bad_by c.args.sheet.now c.args.alternative c.args.table.now c.in_err-check.field-0.0 c.in_err-check.ensures)

pub returns-then-number_at-a : goal.returns-then-number_at-a
returns-then-number_at-a c =
    no_alternative_lem _ _ _ (done_number _ _ c.in_ok-check.ensures) (omega (arith, c.number_at.ensures.0, c.if-number_at-a.true))

pub returns-then-table-n : goal.returns-then-table-n
returns-then-table-n c =
    let r = read _ _ _ _ _ c.in_ok-check.ensures c.number_at.ensures.0 c.if-number_at-a.false c.alternative_of-p.ensures.0 in
    short_of r _ c.if-table-n.true

pub constrain_all-requires : goal.constrain_all-requires
constrain_all-requires c =
    let r = read _ _ _ _ _ c.in_ok-check.ensures c.number_at.ensures.0 c.if-number_at-a.false c.alternative_of-p.ensures.0 in
    (sym c.begin.ensures.same.tokens, c.alternative_of-p.ensures.1, c.alternative_of-p.ensures.2, seats_of r)

pub returns : goal.returns
returns c =
    let r = read _ _ _ _ _ c.in_ok-check.ensures c.number_at.ensures.0 c.if-number_at-a.false c.alternative_of-p.ensures.0 in
    let k = kept_then c.begin.ensures.same c.constrain_all.ensures.same in
    let same = sym (kept_then k c.settle.ensures.same).table in
    search (rules, done_of r _ _ _ _ c.if-table-n.false c.begin.ensures.table c.constrain_all.ensures.table (rw k.tokens at c.settle.ensures.table), same)
