-- `moments::soonest` meets its contract: its loop keeps the invariant, and leaves what is promised. Assumes nothing.
use Rattle.moments.proofs.Laws.{soonest-none, soonest_more, soonest-all}
use Rattle.moments.proofs.soonest.Goals as goal

pub loop-v-init : goal.loop-v-init
loop-v-init c p = soonest-none p _ _ _

pub loop-v-preserved : goal.loop-v-preserved
loop-v-preserved c p =
    let least = soonest_more p _ _ _ _ _ _ c.loop-v-test.true c.loop-v.auto.v (c.loop-v.invariant p) (c.to_run.ensures p) in
    cc

pub returns : goal.returns
returns c p = soonest-all p _ _ _ _ _ c.loop-v-test.false (c.loop-v.invariant p)
