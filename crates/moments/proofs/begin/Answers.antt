-- `moments::begin` meets its contract: its loop keeps the invariant, and leaves what is promised. Assumes nothing.
use native.Mathlib.Omega.{arith}
use Rattle.moments.proofs.Laws.{upto_nothing, upto_more, upto_all}
use Rattle.moments.proofs.begin.Goals as goal

pub loop-v-init : goal.loop-v-init
loop-v-init c = upto_nothing _ _

pub loop-v-preserved : goal.loop-v-preserved
loop-v-preserved c = upto_more c.loop-v.invariant (omega arith) c.line_at.ensures.0 c.line_at.ensures.1

pub returns : goal.returns
returns c = let done = c.loop-v.invariant in (upto_all _ done c.loop-v-test.false, done.small)
