-- `composition::union_over` meets its contract, by the invariant in Invariants.antt: a union that grows by one set, where the number is in
-- the set. Assumes nothing.
use mathlib.Core.Path.{◌≡◌, refl, sym, ◌∙◌}
use mathlib.Core.Bool.{true, false}
use Prim.Native.Nat.{ℕ, ◌+◌}
use native.Mathlib.Numerals.{add-one}
use lib.Bits.{bit_or}
use Rattle.std.specs.Int.Bits.{or_zero_l}
use Rattle.std.proofs.lemmas.Nat.{or_comm}
use Rattle.words.specs.Words.{in_set}
use Rattle.composition.specs.Sets.{down, unions, chosen}
use Rattle.composition.proofs.union_over.Goals.{then-in_set, else-in_set}
use Rattle.composition.proofs.union_over.Goals as goal

none_yet : (s : ℕ) (f : ℕ → ℕ) → 0 ≡ chosen s f 0
unfolding chosen unions down
none_yet s f = refl

one_more : (s : ℕ) (f : ℕ → ℕ) (i : ℕ) {r set : ℕ} → true ≡ in_set s i → set ≡ f i → r ≡ chosen s f i → bit_or r set ≡ chosen s f (i + 1)
unfolding chosen unions down
one_more s f i {r} {set} t e h = rw (add-one i, ← t, ← e, ← h) (or_comm r set)

no_more : (s : ℕ) (f : ℕ → ℕ) (i : ℕ) {r : ℕ} → false ≡ in_set s i → r ≡ chosen s f i → r ≡ chosen s f (i + 1)
unfolding chosen unions down
no_more s f i t h = rw (add-one i, ← t) (h ∙ sym (or_zero_l _))

pub loop-k-init : goal.loop-k-init
loop-k-init g c = λ f _. none_yet c.args.set f

pub loop-k-preserved : goal.loop-k-preserved
loop-k-preserved g c = λ f gives.
    elim c.if-in_set.branch [
      | then-in_set w ↦ w.union-is ∙ one_more c.args.set f c.loop-k.k (sym w.if-in_set.true ∙ c.in_set.ensures) (gives _ _ c.loop-k-test.true w.part-union.ensures) (c.loop-k.invariant f gives)
      | else-in_set w ↦ w.union-is ∙ no_more c.args.set f c.loop-k.k (sym w.if-in_set.false ∙ c.in_set.ensures) (c.loop-k.invariant f gives)
    ]
