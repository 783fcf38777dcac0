-- `earliest::earliest` meets its contract: each return is a case of what is told. Assumes nothing.
use mathlib.Core.Path.{refl}
use native.Mathlib.Omega.{arith}
use Rattle.std.proofs.lemmas.Result.{err_from_is_err_and}
use Rattle.answers.proofs.Stages.{refused_number, done_number}
use Rattle.earliest.proofs.Answering.{told_refused, told_unknown, told-yes, told_no}
use Rattle.earliest.proofs.earliest.Goals as goal

pub returns-in_err-check : goal.returns-in_err-check
returns-in_err-check c =
    let p = err_from_is_err_and c.from_residual.result c.from_residual.ensures.1 in
    rw (p.1, p.2) (told_refused _ c.in_err-check.ensures (refused_number _ _ refl))

pub returns-then-a-number_at : goal.returns-then-a-number_at
returns-then-a-number_at c = told_unknown _ (done_number _ _ c.in_ok-check.ensures) (omega (arith, c.number_at.ensures.0))

pub decide-requires : goal.decide-requires
decide-requires c = (done_number _ _ c.in_ok-check.ensures, omega (arith, c.number_at.ensures.0))

pub returns-then-decide : goal.returns-then-decide
returns-then-decide c = told-yes (done_number _ _ c.in_ok-check.ensures) (omega (arith, c.number_at.ensures.0)) c.decide.ensures c.if-decide.true

pub returns : goal.returns
returns c = told_no (done_number _ _ c.in_ok-check.ensures) (omega (arith, c.number_at.ensures.0)) c.decide.ensures c.if-decide.false
