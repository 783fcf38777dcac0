-- `listing::list_alternatives` meets its contract, by the invariant in Invariants.antt. Assumes nothing.
use native.Mathlib.Omega.{arith}
use Rattle.listing.proofs.Going.{start_cut, go_cut, done_cut, gather-all, gather_none}
use Rattle.listing.proofs.Items.{digits_eight}
use Rattle.listing.proofs.Making.{more_items}
use Rattle.listing.proofs.list_alternatives.Goals as goal

pub loop-i-init : goal.loop-i-init
loop-i-init c = start_cut _ _ _ (gather-all _ _ _ _)

pub list_choices-m-requires : goal.list_choices-m-requires
list_choices-m-requires c =
    let k8 = c.requires.1.1 c.loop-i.i (omega arith) in
    (omega arith, (digits_eight _ (omega arith), (omega arith, omega arith)))

pub loop-i-preserved : goal.loop-i-preserved
loop-i-preserved c =
    go_cut _ _ _ _ c.loop-i.invariant (more_items _ _ _ _ _ _ _ c.loop-i-test.true c.number_at-base.ensures.0 c.number_at-part.ensures.0 c.number_at-k.ensures.0) c.list_choices-m.ensures

pub returns : goal.returns
returns c = done_cut _ _ c.loop-i.invariant (gather_none _ _ _ _ _ c.loop-i-test.false)
