-- The measure of `listing::list_choices`: fourteen for each constraint that remains, less the relations passed. Assumes nothing.
use Prim.Native.Nat.{◌+◌, ◌*◌, ◌-◌}
use Rattle.listing.proofs.+list_choices.Given as goal

abbrev pub decreases-list_choices : goal.decreases-list_choices
decreases-list_choices l = l.k * 14 + (13 - l.x)
