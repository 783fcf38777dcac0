-- `bounds::put_times` meets its contract, by the invariant in Invariants.antt. Assumes nothing.
use mathlib.Core.Path.{◌≡◌}
use native.Mathlib.Omega.{arith}
use lib.Seq.{get_or-set_same}
use Rattle.bounds.proofs.Timing.{first_one_lem, first-set}
use Rattle.bounds.proofs.put_times.Goals as goal

pub loop-k-init : goal.loop-k-init
loop-k-init c =
    first_one_lem _ _ (get_or-set_same c.args.x.now 0 0 0 (omega arith)) (c.requires.0.flat 0 (omega arith))

pub least_time-requires : goal.least_time-requires
least_time-requires c =
    let p = c.requires.0 in
    (omega arith, c.loop-k-test.true, p.near, p.floored, c.loop-k.invariant)

pub loop-k-preserved : goal.loop-k-preserved
loop-k-preserved c =
    let l = c.loop-k in
    let p = c.requires.0 in
    let taken = c.loop-k-test.true in
    first-set
    _
    l.x
    l.k
    c.least_time.result
    (omega arith)
    (omega arith)
    taken
    (λ i j. p.joined l.k i j (omega arith) taken)
    p.near
    (p.flat l.k taken)
    l.invariant
    c.least_time.ensures

pub returns : goal.returns
returns c =
    let l = c.loop-k in
    let all : l.k ≡ 12 = omega arith in
    rw all at l.invariant
