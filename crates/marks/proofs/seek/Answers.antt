-- `marks::seek` meets its contract: a token of another value is passed over, and past the last there is none. Assumes nothing.
use mathlib.Core.Path.{◌≡◌}
use Prim.Native.Nat.{◌-◌}
use native.Mathlib.Omega.{arith}
use Rattle.lines.proofs.Width.{width_few}
use Rattle.marks.proofs.Lines.{skipped_none, skipped_on, sought_none}
use Rattle.marks.proofs.seek.Goals as goal

pub loop-i-init : goal.loop-i-init
loop-i-init c =
    let h = c.requires.2 in
    let all : c.args.w.count - 0 ≡ c.args.w.count = omega arith in
    (omega arith, omega arith, rw all (skipped_none _ _), omega (arith, h, (width_few c.args.p.now).1))

pub loop-i-preserved : goal.loop-i-preserved
loop-i-preserved c = (
  omega (arith, c.loop-i.invariant.0, c.loop-i.invariant.3),
  omega arith,
  skipped_on _ _ _ c.loop-i.i _ _ _ _ c.requires.2 c.loop-i-test.true c.head_at-value.ensures.duration c.head_at-value.ensures.value c.if-value-w.false (omega arith) c.loop-i.invariant.2,
  c.loop-i.invariant.3,
)

pub returns : goal.returns
returns c = sought_none _ _ _ _ _ (omega arith) c.loop-i.invariant.2
