-- `plan::check_tokens` meets its contract, by the invariant in Invariants.antt. Assumes nothing.
use native.Mathlib.Omega.{arith}
use Rattle.std.proofs.lemmas.Result.{err_from_is_err_and}
use Rattle.words.proofs.Least.{clear_more}
use Rattle.plan.proofs.Laws.{line-done, line-refused, none_faulty}
use Rattle.plan.proofs.check_tokens.Goals as goal

pub line_fault-requires : goal.line_fault-requires
line_fault-requires c = c.requires _ (omega arith)

pub returns-in_err-line_fault : goal.returns-in_err-line_fault
returns-in_err-line_fault c =
    let p = err_from_is_err_and c.from_residual.result c.from_residual.ensures.1 in
    rw (p.1, p.2) (line-refused _ _ _ _ _ c.loop-v.invariant c.loop-v-test.true c.word_at-v-end.ensures c.in_err-line_fault.ensures)

pub loop-v-preserved : goal.loop-v-preserved
loop-v-preserved c = clear_more _ _ c.loop-v.invariant (line-done _ _ _ _ c.in_ok-line_fault.ensures)

pub returns : goal.returns
returns c = none_faulty _ _ _ (λ v l. c.loop-v.invariant v (omega arith)) c.word_at-v-end.ensures
