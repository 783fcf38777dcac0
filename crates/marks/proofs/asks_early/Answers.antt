-- `marks::asks_early` meets its contract: what one ask tells, all of them tell. Assumes nothing.
use mathlib.Core.Path.{refl}
use Prim.Native.Nat.{◌-◌}
use native.Mathlib.Omega.{arith}
use Rattle.marks.proofs.Sides.{rests_first, rests_after, told_here}
use Rattle.marks.proofs.asks_early.Goals as goal

pub loop-i-init : goal.loop-i-init
loop-i-init c = rests_first _ _ _

pub loop-i-preserved : goal.loop-i-preserved
loop-i-preserved c = rests_after _ _ _ _ c.loop-i-test.true c.fifth_width-width.ensures.0 c.loop-i.invariant

pub returns-then-is_some : goal.returns-then-is_some
returns-then-is_some c =
    told_here _ _ _ _ (c.args.a.asks - c.loop-i.i) _ _ _ _ refl (λ z. omega arith) c.fifth_width-width.ensures.0 c.loop-i.invariant c.ask_early-told.ensures
