-- The invariant of `composition::union_over`: what is kept is the union so far. Assumes nothing.
use mathlib.Core.Path.{◌≡◌}
use Prim.Native.Nat.{ℕ, ◌<◌}
use Rattle.composition.specs.Sets.{chosen}
use Rattle.composition.proofs.union_over.Given as goal

abbrev pub invariant-loop-k : goal.invariant-loop-k
invariant-loop-k g l = (f : ℕ → ℕ) → ((k r : ℕ) → k < 13 → goal.F-post g l.part k r → r ≡ f k) → l.union ≡ chosen l.set f l.k
