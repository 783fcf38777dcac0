-- `sending::send_actions` meets its contract: its loop keeps the invariant, and leaves what is promised. Assumes nothing.
use native.Mathlib.Omega.{arith}
use Rattle.sending.proofs.Laws.{lines_start, lines_step, lines_end}
use Rattle.sending.proofs.send_actions.Goals as goal

pub loop-v-init : goal.loop-v-init
loop-v-init c = (omega arith, lines_start _ _ _ _ _)

pub send_on-requires : goal.send_on-requires
send_on-requires c =
    let pre = c.requires in
    (omega (arith, c.loop-v.invariant.0, pre.0, pre.1), pre.2 _)

pub loop-v-preserved : goal.loop-v-preserved
loop-v-preserved c =
    let inv = c.loop-v.invariant in
    let sent = c.send_on.ensures in
    (omega (arith, inv.0, sent.1), lines_step inv.1 c.loop-v-test.true sent.0)

pub returns : goal.returns
returns c =
    let inv = c.loop-v.invariant in
    (lines_end inv.1 c.loop-v-test.false, omega (arith, inv.0, c.requires.1))
