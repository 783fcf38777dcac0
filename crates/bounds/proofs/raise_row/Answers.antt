-- `bounds::raise_row` meets its contract, by the invariant in Invariants.antt. Assumes nothing.
use mathlib.Core.Path.{◌≡◌}
use native.Mathlib.Omega.{arith}
use borrow.Author.Rules.{rules}
use Rattle.bounds.proofs.Raising.{row-none, row_more}
use Rattle.bounds.proofs.raise_row.Goals as goal

pub loop-j-init : goal.loop-j-init
loop-j-init c = row-none _ _ _ c.requires.0

pub raise-requires : goal.raise-requires
raise-requires c = (c.loop-j.invariant.ready, search rules, search rules)

pub loop-j-preserved : goal.loop-j-preserved
loop-j-preserved c = row_more c.loop-j-test.true c.loop-j.invariant c.raise.ensures

pub returns : goal.returns
returns c =
    let all : c.loop-j.j ≡ c.args.k = omega arith in
    rw all at c.loop-j.invariant
