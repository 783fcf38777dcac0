-- The laws of the items: what one more relation or constraint adds, and that eight digits fit. Assumes nothing.
use mathlib.Core.Path.{◌≡◌, refl, ap}
use mathlib.Core.Bool.{Bool, true, false, cond}
use Prim.Native.Nat.{ℕ, zero, suc, ◌+◌, ◌-◌, ◌*◌, ◌^◌, ◌<◌, ◌≤◌}
use native.Mathlib.Nat.{not-suc-le-zero, le_of_suc-le-suc, mul-le-mul_left}
use native.Mathlib.Omega.{arith}
use mathlib.Core.List.{List, [], ◌∷◌, ◌++◌, flat_map}
use lib.Dec.{lit<}
use lib.ListN.{drop_of_length-le}
use Rattle.words.specs.Words.{word, in_set}
use Rattle.listing.specs.Items.{Digits, items_from, rels_from}
use Rattle.listing.specs.Expand.{keep}

-- what holds of each number below k, one by one
abbrev pub Below : (ℕ → Type 0) → ℕ → Type 0
Below P zero = Unit
Below P (suc k) = P zero × Below (λ (n : ℕ). P (suc n)) k

pub below_at : (P : ℕ → Type 0) (k n : ℕ) → Below P k → n < k → P n
below_at P zero n a h = absurd (not-suc-le-zero h)
below_at P (suc k) zero a h = a.0
below_at P (suc k) (suc n) a h = below_at (λ (m : ℕ). P (suc m)) k n a.1 (le_of_suc-le-suc h)

pub rels_end : (x set : ℕ) → 13 ≤ x → rels_from x set ≡ []
unfolding rels_from keep
rels_end x set h = ap (keep (in_set set)) (drop_of_length-le _ h)

pub rels_step : (x set : ℕ) → x < 13 → rels_from x set ≡ cond (in_set set x) (x ∷ rels_from (x + 1) set) (rels_from (x + 1) set)
unfolding rels_from keep
rels_step x set h =
    below_at (λ (x : ℕ). rels_from x set ≡ cond (in_set set x) (x ∷ rels_from (x + 1) set) (rels_from (x + 1) set))
    13 x (refl, (refl, (refl, (refl, (refl, (refl, (refl, (refl, (refl, (refl, (refl, (refl, (refl, tt))))))))))))) h

pred : (k : ℕ) → suc k - 1 ≡ k
pred k = omega arith

pub items_leaf : (s : List ℕ) (k at acc m x : ℕ) → k ≡ 0 → items_from s k at acc m x ≡ acc ∷ []
unfolding items_from
items_leaf s k at acc m x h = rw h

-- the code's test of a bit
pub bit : {w v : ℕ} {f t : Bool} (x : ℕ) → w ≡ v → f ≡ in_set w x → f ≡ t → in_set v x ≡ t
bit x p q r = cc

-- what `items_from` does where constraints remain, relation by relation
module _ (s : List ℕ) (k at acc m : ℕ) (h : k ≡ 0 → ⊥) where
  pub items_end : (x : ℕ) → 13 ≤ x → items_from s k at acc m x ≡ []
  unfolding items_from flat_map
  items_end x le = from k h
    where
      from : (k : ℕ) → (k ≡ 0 → ⊥) → items_from s k at acc m x ≡ []
      from zero h = absurd (h refl)
      from (suc k) h = rw (rels_end x (word s (at + 2)) le)

  pub items_skip : (x : ℕ) → x < 13 → in_set (word s (at + 2)) x ≡ false → items_from s k at acc m x ≡ items_from s k at acc m (x + 1)
  unfolding items_from
  items_skip x lt out = from k h
    where
      from : (k : ℕ) → (k ≡ 0 → ⊥) → items_from s k at acc m x ≡ items_from s k at acc m (x + 1)
      from zero h = absurd (h refl)
      from (suc k) h = rw (rels_step x (word s (at + 2)) lt, out)

  pub items_take : (x : ℕ) → x < 13 → in_set (word s (at + 2)) x ≡ true
      → items_from s k at acc m x ≡ items_from s (k - 1) (at + 3) (acc + m * x) (m * 16) 0 ++ items_from s k at acc m (x + 1)
  unfolding items_from flat_map
  items_take x lt isin = from k h
    where
      from : (k : ℕ) → (k ≡ 0 → ⊥) → items_from s k at acc m x ≡ items_from s (k - 1) (at + 3) (acc + m * x) (m * 16) 0 ++ items_from s k at acc m (x + 1)
      from zero h = absurd (h refl)
      from (suc k) h = rw (pred k, rels_step x (word s (at + 2)) lt, isin)

pub digits_fit : (k m : ℕ) → Digits k m → m < 2 ^ 47
unfolding Digits
digits_fit zero m h = h
digits_fit (suc k) m h = omega (arith, digits_fit k (m * 16) h)

pub digits_step : (k m : ℕ) → (k ≡ 0 → ⊥) → Digits k m → Digits (k - 1) (m * 16)
unfolding Digits
digits_step zero m h r = absurd (h refl)
digits_step (suc k) m h r = rw (pred k) r

pub digits_next : (k m : ℕ) → (k ≡ 0 → ⊥) → Digits k m → m * 16 < 2 ^ 47
digits_next k m h r = digits_fit (k - 1) (m * 16) (digits_step k m h r)

pub digit_small : (m acc x : ℕ) → acc < m → x < 13 → acc + m * x < m * 16
digit_small m acc x a h =
    let le : x ≤ 12 = omega arith in
    omega (arith, mul-le-mul_left m le)

-- eight digits fit
pub digits_eight : (n : ℕ) → n ≤ 8 → Digits n 16384
unfolding Digits
digits_eight n h =
    below_at (λ (n : ℕ). Digits n 16384) 9 n (lit< tt, (lit< tt, (lit< tt, (lit< tt, (lit< tt, (lit< tt, (lit< tt, (lit< tt, (lit< tt, tt))))))))) (omega arith)
