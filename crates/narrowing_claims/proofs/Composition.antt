-- What 02 says of the table of compositions, sentence by sentence; the proofs are those of `composition`. Assumes nothing.
use mathlib.Core.Path.{◌≡◌, refl}
use mathlib.Core.Bool.{true}
use mathlib.Core.Logic.{◌↔◌}
use Prim.Native.Nat.{ℕ, ◌^◌, ◌<◌}
use Rattle.words.specs.Words.{in_set}
use Rattle.composition.specs.Table.{pair_set, compose_sets, converse_set}
use Rattle.composition.specs.Rule.{Show}
use Rattle.composition.proofs.Rule.{the_rule}
use Rattle.composition.proofs.Algebra.{equals_left, equals_right, compose_assoc, converse_compose}

-- "a relation is in the set exactly if three stretches of positive length exist that show it"
pub rule : (p q r : ℕ) → (in_set (pair_set p q) r ≡ true) ↔ Show p q r
rule = the_rule

-- "'equals' is neutral": 64 is the set of it alone
pub equals_neutral : (s : ℕ) → s < 2 ^ 13 → (compose_sets 64 s ≡ s) × (compose_sets s 64 ≡ s)
equals_neutral s h = (equals_left s h, equals_right s h)

-- "composition is associative on sets"
pub associative : (s t u : ℕ) → compose_sets (compose_sets s t) u ≡ compose_sets s (compose_sets t u)
associative = compose_assoc

-- "the converse of a composition is the composition of converses in the other order"
pub converse_of : (s t : ℕ) → converse_set (compose_sets s t) ≡ compose_sets (converse_set t) (converse_set s)
converse_of = converse_compose

-- before and before leave before alone
pub before-before : pair_set 0 0 ≡ 1
unfolding pair_set
before-before = refl
