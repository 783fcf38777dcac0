-- `removal::list_left` meets its contract. The invariant: the kept rules before i are listed, the others are left. Assumes nothing.
use Prim.Native.Nat.{◌≤◌}
use Rattle.removal.specs.Left.{left_from}
use Rattle.listing.proofs.Going.{Going}
use Rattle.removal.proofs.list_left.Given as goal

abbrev pub invariant-loop-i : goal.invariant-loop-i
invariant-loop-i l = (l.at ≤ l.i) × Going l.initial.left 0 (left_from l.list l.n 0) l.left l.at (left_from l.list l.n l.i)
