-- `moments::to_run` meets its contract. Assumes nothing.
use Rattle.moments.proofs.Laws.{run_none, run-some}
use Rattle.moments.proofs.to_run.Goals as goal

pub returns-then-l-eq0 : goal.returns-then-l-eq0
returns-then-l-eq0 c p = run_none p _ c.if-l-eq0.true

pub returns : goal.returns
returns c p = run-some p _ c.if-l-eq0.false
