-- `removal::close_desks` meets its contract, by the invariant in Invariants.antt. Assumes nothing.
use mathlib.Core.Path.{refl}
use native.Mathlib.Omega.{arith}
use Rattle.removal.proofs.Desks.{close_none, close_more, close_all}
use Rattle.removal.proofs.close_desks.Goals as goal

pub loop-i-init : goal.loop-i-init
loop-i-init c = close_none _ _

pub loop-i-preserved : goal.loop-i-preserved
loop-i-preserved c =
    let i = c.loop-i-test.true in
    close_more c.args.desks.now c.args.left.now c.loop-i.invariant i _ _ refl (c.requires.0 _ i) c.word_at.ensures

pub returns : goal.returns
returns c = close_all c.args.desks.now c.args.left.now c.loop-i.invariant (omega arith) c.requires.1
