-- `bounds::raise_rows` meets its contract, by the invariant in Invariants.antt. Assumes nothing.
use mathlib.Core.Path.{◌≡◌}
use native.Mathlib.Omega.{arith}
use borrow.Author.Rules.{rules}
use Rattle.bounds.proofs.Raising.{rows_none, rows_more}
use Rattle.bounds.proofs.raise_rows.Goals as goal

pub loop-i-init : goal.loop-i-init
loop-i-init c = rows_none _ _ c.requires

pub raise_row-requires : goal.raise_row-requires
raise_row-requires c = (c.loop-i.invariant.ready, search rules)

pub loop-i-preserved : goal.loop-i-preserved
loop-i-preserved c = rows_more c.loop-i.invariant c.raise_row.ensures

pub returns : goal.returns
returns c =
    let all : c.loop-i.i ≡ c.args.k = omega arith in
    rw all at c.loop-i.invariant
