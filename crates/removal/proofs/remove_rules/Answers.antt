-- `removal::remove_rules` meets its contract: the book's own fault, 19, 24, or both lent runs closed up to the kept rules. Assumes nothing.
use mathlib.Core.Path.{refl}
use Rattle.std.proofs.lemmas.Result.{err_from_is_err_and}
use Rattle.answers.proofs.Stages.{refusal_number}
use Rattle.removal.proofs.Outcome.{bad_by, no_desk, no_rules_lem, right, done}
use Rattle.removal.proofs.remove_rules.Goals as goal

pub returns-in_err-check : goal.returns-in_err-check
returns-in_err-check c =
    let p = err_from_is_err_and c.from_residual.result c.from_residual.ensures.1 in
    let told = bad_by _ _ _ _ _ c.in_err-check.ensures refl (refusal_number _) in
    rw (p.1, p.2) (record { result_value = told.0; book_after = told.1.0; desks_after = told.1.1 })

pub returns-then-not-list_right : goal.returns-then-not-list_right
returns-then-not-list_right c =
    let told = no_desk _ _ _ _ _ c.in_ok-check.ensures refl refl _ c.list_right.ensures c.if-not-list_right.true in
    record { result_value = told.0; book_after = told.1.0; desks_after = told.1.1 }

pub returns-then-not-rises : goal.returns-then-not-rises
returns-then-not-rises c =
    let told = no_rules_lem _ _ _ _ _ c.in_ok-check.ensures refl refl _ c.list_right.ensures
    c.if-not-list_right.false _ _ c.number_at-n.ensures.0 c.rises.ensures c.if-not-rises.true in
    record { result_value = told.0; book_after = told.1.0; desks_after = told.1.1 }

pub close_up-requires : goal.close_up-requires
close_up-requires c =
    right _ _ _ _ _ c.in_ok-check.ensures refl refl _ c.list_right.ensures c.if-not-list_right.false _ _
    c.number_at-n.ensures.0 c.rises.ensures c.if-not-rises.false

pub returns : goal.returns
returns c =
    let told = done _ _ _ _ _ c.in_ok-check.ensures refl refl _ c.list_right.ensures c.if-not-list_right.false _ _
    c.number_at-n.ensures.0 c.rises.ensures c.if-not-rises.false _ _ _ c.close_up.ensures in
    record { result_value = told.0; book_after = told.1.0; desks_after = told.1.1 }
