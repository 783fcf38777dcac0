-- `bounds::close` meets its contract, by the invariant in Invariants.antt. Assumes nothing.
use mathlib.Core.Path.{◌≡◌}
use native.Mathlib.Omega.{arith}
use borrow.Author.Rules.{rules}
use Rattle.bounds.proofs.Raising.{through-none, round, round_done}
use Rattle.bounds.proofs.Timing.{closed}
use Rattle.bounds.proofs.close.Goals as goal

pub loop-k-init : goal.loop-k-init
loop-k-init c = (search rules, through-none _ c.requires.0 c.requires.1)

pub raise_rows-requires : goal.raise_rows-requires
raise_rows-requires c =
    let l = c.loop-k in
    round (omega (arith, c.loop-k-test.true)) (omega arith) l.invariant.1

pub loop-k-preserved : goal.loop-k-preserved
loop-k-preserved c =
    (search rules, round_done (omega (arith, c.loop-k-test.true)) c.loop-k.invariant.1 c.raise_rows.ensures)

pub returns : goal.returns
returns c =
    let l = c.loop-k in
    let all : l.k ≡ 1 = omega arith in
    closed (rw all at l.invariant.1)
