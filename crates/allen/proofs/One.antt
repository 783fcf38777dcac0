-- The laws of what specs/One defines. Assumes nothing.
use mathlib.Core.Path.{◌≡◌, refl, sym, ap, ◌∙◌}
use mathlib.Core.Bool.{Bool, true, false}
use mathlib.Core.Logic.{◌↔◌}
use mathlib.Core.List.{List, map}
use Prim.Native.Nat.{ℕ, ◌<◌}
use native.Mathlib.Omega.{arith}
use lib.Dec.{ltb, eqb}
use lib.ListN.{get_or}
use borrow.Author.Tests.{ltb-true, ltb-false, eqb-true, eqb-false, lt-ltb, le-ltb, eq-eqb, ne_eqb}
use Rattle.words.specs.Least.{first}
use Rattle.words.specs.Runs.{run}
use Rattle.words.proofs.Runs.{run_at}
use Rattle.allen.specs.Relation.{conditions, relation_of, converse, thirteen}
use Rattle.allen.specs.One.{Like}

ruleset tests = (ltb-true, ltb-false, eqb-true, eqb-false, lt-ltb, le-ltb, eq-eqb, ne_eqb)

-- then the same conditions hold of them
pub like_conditions : {s e s' e' a b a' b' : ℕ} → Like s e s' e' a b a' b' → conditions s e s' e' ≡ conditions a b a' b'
like_conditions f =
    rw (f.before, f.meets, f.after, f.met, f.into, f.onto, f.starts, f.started, f.level, f.ends, f.ended, f.flush)

-- and turned round
pub like_turned : {s e s' e' a b a' b' : ℕ} → Like s e s' e' a b a' b' → Like s' e' s e a' b' a b
like_turned f =
    record {
      before = f.after;
      meets = f.met;
      after = f.before;
      met = f.meets;
      into = f.onto;
      onto = f.into;
      starts = f.started;
      started = f.starts;
      level = f.levelled;
      levelled = f.level;
      ends = f.ended;
      ended = f.ends;
      flush = f.flushed;
      flushed = f.flush;
    }

-- so that they stand in the same relation
pub like_relation : {s e s' e' a b a' b' : ℕ} → Like s e s' e' a b a' b' → relation_of s e s' e' ≡ relation_of a b a' b'
unfolding relation_of
like_relation f = ap (first (λ (holds : Bool). holds)) (like_conditions f)

module _ (s e s' e' : ℕ) (h : s < e) (h' : s' < e') where
  record Settled : Type 0 where
    one : conditions s e s' e' ≡ map (λ (k : ℕ). eqb k (relation_of s e s' e')) thirteen
    below : relation_of s e s' e' < 13
    turned : relation_of s' e' s e ≡ converse (relation_of s e s' e')

  -- what is computed of a sample holds of stretches that lie like it
  sampled : (a b a' b' : ℕ) → Like s e s' e' a b a' b' → conditions a b a' b' ≡ map (λ (k : ℕ). eqb k (relation_of a b a' b')) thirteen
      → relation_of a b a' b' < 13 → relation_of a' b' a b ≡ converse (relation_of a b a' b') → Settled
  sampled a b a' b' f one below turned =
      record {
        one = rw (like_relation f) (like_conditions f ∙ one);
        below = rw (like_relation f) below;
        turned = rw (like_relation f) (like_relation (like_turned f) ∙ turned);
      }

  -- neither is before the other, nor do they meet: by the starts and the ends
  crossing : (starts level ends flush : Bool) → ltb e s' ≡ false → eqb e s' ≡ false → ltb e' s ≡ false → eqb e' s ≡ false
      → ltb s s' ≡ starts → eqb s s' ≡ level → ltb e e' ≡ ends → eqb e e' ≡ flush → Settled
  unfolding relation_of first
  crossing true _ true _ a b c d p q r t = sampled 0 2 1 3 (omega (arith, tests)) refl (omega arith) refl
  crossing true _ false true a b c d p q r t = sampled 0 2 1 2 (omega (arith, tests)) refl (omega arith) refl
  crossing true _ false false a b c d p q r t = sampled 0 3 1 2 (omega (arith, tests)) refl (omega arith) refl
  crossing false true true _ a b c d p q r t = sampled 0 1 0 2 (omega (arith, tests)) refl (omega arith) refl
  crossing false true false true a b c d p q r t = sampled 0 1 0 1 (omega (arith, tests)) refl (omega arith) refl
  crossing false true false false a b c d p q r t = sampled 0 2 0 1 (omega (arith, tests)) refl (omega arith) refl
  crossing false false true _ a b c d p q r t = sampled 1 2 0 3 (omega (arith, tests)) refl (omega arith) refl
  crossing false false false true a b c d p q r t = sampled 1 2 0 2 (omega (arith, tests)) refl (omega arith) refl
  crossing false false false false a b c d p q r t = sampled 1 3 0 2 (omega (arith, tests)) refl (omega arith) refl

  apart : (before meets after met : Bool) → ltb e s' ≡ before → eqb e s' ≡ meets → ltb e' s ≡ after → eqb e' s ≡ met → Settled
  unfolding relation_of first
  apart true _ _ _ a b c d = sampled 0 1 2 3 (omega (arith, tests)) refl (omega arith) refl
  apart false true _ _ a b c d = sampled 0 1 1 2 (omega (arith, tests)) refl (omega arith) refl
  apart false false true _ a b c d = sampled 2 3 0 1 (omega (arith, tests)) refl (omega arith) refl
  apart false false false true a b c d = sampled 1 2 0 1 (omega (arith, tests)) refl (omega arith) refl
  apart false false false false a b c d = crossing (ltb s s') (eqb s s') (ltb e e') (eqb e e') a b c d refl refl refl refl

  settled : Settled
  settled = apart (ltb e s') (eqb e s') (ltb e' s) (eqb e' s) refl refl refl refl

  -- THE THEOREM, "Two tokens stand in exactly one relation": of the thirteen conditions that of `relation_of` holds, and no other
  pub one_relation : conditions s e s' e' ≡ map (λ (k : ℕ). eqb k (relation_of s e s' e')) thirteen
  one_relation = settled.one

  -- so a relation's condition holds exactly if it is the one in which they stand
  pub stands_in : (k : ℕ) → k < 13 → (get_or (conditions s e s' e') k false ≡ true) ↔ (k ≡ relation_of s e s' e')
  unfolding run
  stands_in k l =
      let test : ℕ → Bool = λ i. eqb i (relation_of s e s' e') in
      let said : get_or (conditions s e s' e') k false ≡ eqb k (relation_of s e s' e') =
      ap (λ (l : List Bool). get_or l k false) one_relation ∙ run_at test 1 13 0 k false l ∙ ap test (omega arith) in
      (λ t. eqb-true _ _ (sym said ∙ t), λ q. said ∙ eq-eqb _ _ q)

  -- it is one of the thirteen
  pub relation_below : relation_of s e s' e' < 13
  relation_below = settled.below

  -- and right stands to left in its converse
  pub converse-is : relation_of s' e' s e ≡ converse (relation_of s e s' e')
  converse-is = settled.turned

-- "0..10 and 10..20 meet and aren't "before""
pub specimen : (relation_of 0 10 10 20 ≡ 1) × (ltb 10 10 ≡ false)
unfolding relation_of first
specimen = (refl, refl)
