-- `bounds::least_time` meets its contract, by the invariant in Invariants.antt. Assumes nothing.
use mathlib.Core.Path.{◌≡◌}
use Prim.Native.Nat.{◌+◌, ◌*◌}
use native.Mathlib.Omega.{arith}
use Rattle.bounds.proofs.Timing.{floor, reached_one, reached_later, reached_small}
use Rattle.bounds.proofs.least_time.Goals as goal

pub overflow_sub-best : goal.overflow_sub-best
overflow_sub-best c = floor c.args.w.now c.args.k c.requires.1 c.requires.3

pub loop-i-init : goal.loop-i-init
loop-i-init c =
    let p = c.requires in
    (reached_one _ _ _ _ p.4.starts (omega (arith, floor c.args.w.now _ p.1 p.3)))

pub later-best-requires : goal.later-best-requires
later-best-requires c =
    let l = c.loop-i in
    let p = c.requires in (
      omega (arith, reached_small _ _ _ _ _ _ (omega arith) (omega arith) p.2 p.4 l.invariant),
      omega (arith, p.4.small l.i (omega arith)),
      omega (arith, (p.2 (l.i * 12 + c.args.k)).high),
    )

pub loop-i-preserved : goal.loop-i-preserved
loop-i-preserved c = reached_later _ _ _ _ _ _ c.loop-i.invariant c.later-best.ensures

pub returns : goal.returns
returns c =
    let l = c.loop-i in
    let all : l.i ≡ c.args.k = omega arith in
    rw all at l.invariant
