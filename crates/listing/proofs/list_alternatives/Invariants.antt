-- The invariant of `listing::list_alternatives`: the items of the alternatives before i are listed, the others are left.
-- Assumes nothing.
use Prim.Native.Nat.{◌+◌, ◌*◌, ◌-◌}
use Rattle.listing.proofs.Going.{Going}
use Rattle.listing.specs.Items.{up_to, gather, items_at}
use Rattle.listing.proofs.list_alternatives.Given as goal

abbrev pub invariant-loop-i : goal.invariant-loop-i
invariant-loop-i l = Going l.initial.out l.from (up_to l.limit l.from (gather (items_at l.s) 4 l.n l.at)) l.out l.m
    (up_to l.limit l.m (gather (items_at l.s) 4 (l.n - l.i) (l.at + 4 * l.i)))
