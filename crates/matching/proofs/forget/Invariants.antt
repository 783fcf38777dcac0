-- `matching::forget` meets its contract. The invariant: nothing is kept before place i. Assumes nothing.
use mathlib.Core.Path.{◌≡◌}
use Prim.Native.Nat.{ℕ, ◌<◌}
use lib.ListN.{length, get_or}
use Rattle.std.specs.Prelude.{None}
use Rattle.matching.proofs.forget.Given as goal

abbrev pub invariant-loop-i : goal.invariant-loop-i
invariant-loop-i l = (length l.kept ≡ 64) × ((j : ℕ) → j < l.i → get_or l.kept j None ≡ None)
