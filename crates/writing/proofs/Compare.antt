-- A relation's atoms are its comparisons, one by one. Assumes nothing.
use mathlib.Core.Path.{◌≡◌, refl}
use Prim.Native.Nat.{ℕ, zero, suc, ◌+◌, ◌/◌, ◌%◌, ◌<◌, ◌≤◌}
use native.Mathlib.Omega.{arith}
use mathlib.Core.List.{List, [], ◌∷◌, ◌++◌, flat_map}
use lib.ListN.{length, get_or, drop}
use Rattle.clock.specs.Clock.{no_limit}
use Rattle.allen.specs.Atoms.{atoms_of}
use Rattle.listing.proofs.Items.{below_at}
use Rattle.listing.proofs.Going.{drop_more, drop-none}
use Rattle.writing.specs.Compare.{compared, comparisons, relation_words, side, upper}

pub side_left : (k l r : ℕ) → k ≡ 0 → side k l r ≡ l
side_left k l r h = rw h

pub side_right : (k l r : ℕ) → (k ≡ 0 → ⊥) → side k l r ≡ r
side_right zero l r h = absurd (h refl)
side_right (suc k) l r h = refl

pub upper-none : (k : ℕ) → (k ≡ 0 → ⊥) → upper k ≡ no_limit
upper-none zero h = absurd (h refl)
upper-none (suc k) h = refl

pub compared-some : (k l r : ℕ) → (k ≡ 0 → ⊥)
    → compared k l r ≡ k / 16 % 2 ∷ side (k / 8 % 2) l r ∷ k / 4 % 2 ∷ side (k / 2 % 2) l r ∷ k % 2 ∷ upper (k % 2) ∷ []
compared-some zero l r h = absurd (h refl)
compared-some (suc k) l r h = refl

-- the words of comparisons, one by one
abbrev pub compared_all : List ℕ → ℕ → ℕ → List ℕ
compared_all codes l r = flat_map (λ (code : ℕ). compared code l r) codes

-- a relation's atoms are its comparisons, one by one
pub relation_is : (x l r : ℕ) → x < 16 → relation_words x l r ≡ compared_all (get_or comparisons x []) l r
unfolding relation_words atoms_of flat_map
relation_is x l r h =
    below_at (λ (x : ℕ). relation_words x l r ≡ compared_all (get_or comparisons x []) l r)
    16 x (refl, (refl, (refl, (refl, (refl, (refl, (refl, (refl, (refl, (refl, (refl, (refl, (refl, (refl, (refl, (refl, tt)))))))))))))))) h

-- there are three of them
row-long : (x : ℕ) → x < 16 → length (get_or comparisons x []) ≡ 3
row-long x h =
    below_at (λ (x : ℕ). length (get_or comparisons x []) ≡ 3)
    16 x (refl, (refl, (refl, (refl, (refl, (refl, (refl, (refl, (refl, (refl, (refl, (refl, (refl, (refl, (refl, (refl, tt)))))))))))))))) h

-- a loop at comparison i of relation x: one more, or none
module _ (x i l r : ℕ) (h : x < 16) where
  pub compared_more : i < 3
      → compared_all (drop i (get_or comparisons x [])) l r
      ≡ compared (get_or (get_or comparisons x []) i 0) l r ++ compared_all (drop (i + 1) (get_or comparisons x [])) l r
  unfolding flat_map
  compared_more lt = rw (drop_more (get_or comparisons x []) i (omega (arith, row-long x h)))

  pub compared-none : 3 ≤ i → compared_all (drop i (get_or comparisons x [])) l r ≡ []
  unfolding flat_map
  compared-none le = rw (drop-none (get_or comparisons x []) i (omega (arith, row-long x h)))
