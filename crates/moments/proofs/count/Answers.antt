-- `moments::count` meets its contract: its loop keeps the invariant, and leaves what is promised. Assumes nothing.
use mathlib.Core.Path.{◌≡◌}
use Prim.Native.Nat.{◌<◌}
use native.Mathlib.Omega.{arith}
use borrow.Author.Rules.{rules}
use lib.ListN.{length, get_or, take}
use Rattle.std.proofs.Common.{length-take, get_or-take}
use Rattle.moments.specs.State.{nothing}
use Rattle.moments.proofs.Laws.{sum-none, sum_more, sum-all}
use Rattle.moments.proofs.count.Goals as goal

pub loop-line-init : goal.loop-line-init
loop-line-init c = (omega arith, λ p. sum-none p _ _ _)

pub loop-line-preserved : goal.loop-line-preserved
loop-line-preserved c =
    let inv = c.loop-line.invariant in
    let one = c.count_on-sum.ensures in
    let within : c.loop-line.line-index < c.args.n = omega (arith, length-take c.args.n c.args.s) in
    let here : get_or (take c.args.n c.args.s) c.loop-line.line-index nothing ≡ get_or c.args.s c.loop-line.line-index nothing = rw get_or-take in (
      omega (arith, inv.0, one.1),
      λ p. sum_more p _ _ _ _ _ _ _ within (inv.1 p) (rw here at (one.0 p c.loop-line.line-index)),
    )

pub returns : goal.returns
returns c =
    let inv = c.loop-line.invariant in
    let long : length c.args.s ≡ 16 = search rules in
    let few = length-take c.args.n c.args.s in
    (λ p. sum-all p _ _ _ _ _ _ (omega arith) (inv.1 p), omega (arith, inv.0))
