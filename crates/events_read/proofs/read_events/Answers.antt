-- `events_read::read_events` meets its contract. Assumes nothing.
use native.Mathlib.Omega.{arith}
use Rattle.std.proofs.lemmas.Result.{err_from_is_err_and}
use Rattle.answers.proofs.Stages.{done_number}
use Rattle.events_read.proofs.Read.{read_refused, read-not, read_short, read_done}
use Rattle.events_read.proofs.read_events.Goals as goal

pub returns-in_err-check : goal.returns-in_err-check
returns-in_err-check c =
    let p = err_from_is_err_and c.from_residual.result c.from_residual.ensures.1 in
    rw (p.1, p.2) (read_refused _ _ _ _ c.in_err-check.ensures)

pub returns-in_default : goal.returns-in_default
returns-in_default c = read-not _ _ _ (done_number _ _ c.in_ok-check.ensures) c.in_default.ensures

pub returns-then-room-words : goal.returns-then-room-words
returns-then-room-words c =
    read_short _ _ _ (done_number _ _ c.in_ok-check.ensures) _ _ c.in-Some.ensures c.if-room-words.true

pub returns : goal.returns
returns c =
    let room = c.put_words.ensures.same in
    read_done _ _ _ (done_number _ _ c.in_ok-check.ensures) _ _ c.in-Some.ensures (omega (arith, c.if-room-words.false)) _ room
