-- `events_written::write_events` meets its contract. Assumes nothing.
use Prim.Native.Nat.{◌≤◌}
use native.Mathlib.Omega.{arith}
use lib.ListN.{length}
use Rattle.std.proofs.lemmas.Result.{err_from_is_err_and}
use Rattle.answers.proofs.Stages.{done_number}
use Rattle.events_written.proofs.Written.{ready_for, written_refused, written_short, written-done}
use Rattle.events_written.proofs.write_events.Goals as goal

pub returns-in_err-check : goal.returns-in_err-check
returns-in_err-check c =
    let p = err_from_is_err_and c.from_residual.result c.from_residual.ensures.1 in
    rw (p.1, p.2) (written_refused _ _ _ _ c.in_err-check.ensures)

pub size_of-size-requires : goal.size_of-size-requires
size_of-size-requires c =
    let a = c.args in
    ready_for a.book.now a.plan.now _ (done_number _ _ c.in_ok-check.ensures) c.word_at-n.ensures

pub returns-then-room-words : goal.returns-then-room-words
returns-then-room-words c =
    let a = c.args in
    written_short a.book.now a.plan.now _ (done_number _ _ c.in_ok-check.ensures) _ c.size_of-size.ensures.0 c.if-room-words.true

pub send_list-requires : goal.send_list-requires
send_list-requires c =
    let a = c.args in
    let q = c.size_of-size.ensures in
    (ready_for a.book.now a.plan.now _ (done_number _ _ c.in_ok-check.ensures) c.word_at-n.ensures, q.0, q.1, q.2)

pub returns : goal.returns
returns c =
    let a = c.args in
    let fits : c.size_of-size.result.at ≤ length a.room.now = omega (arith, c.if-room-words.false) in
    written-done a.book.now a.plan.now _ (done_number _ _ c.in_ok-check.ensures) _ c.size_of-size.ensures.0 fits _ c.send_list.ensures.stored
