-- `order::all_order` meets its contract. The loop's invariant: each atom passed speaks only of order. Assumes nothing.
use mathlib.Core.Path.{◌≡◌}
use mathlib.Core.Bool.{true}
use Prim.Native.Nat.{ℕ, ◌+◌, ◌*◌, ◌<◌}
use Rattle.book.specs.Rules.{atom_at}
use Rattle.order.specs.Profile.{order_atom}
use Rattle.order.proofs.all_order.Given as goal

abbrev pub invariant-loop-i : goal.invariant-loop-i
invariant-loop-i l = (k : ℕ) → k < l.i → order_atom (atom_at l.b (l.first + 6 * k)) ≡ true
