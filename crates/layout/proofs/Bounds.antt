-- Facts on widths and places, shown once for any table and edition. Assumes nothing.
use mathlib.Core.Path.{◌≡◌, refl}
use mathlib.Core.List.{List, [], ◌∷◌}
use Prim.Native.Nat.{ℕ, zero, suc, ◌+◌, ◌-◌, ◌*◌, ◌^◌, ◌≤◌, ◌<◌}
use native.Mathlib.Nat.{mul-le-mul_left, mul-le-mul_right, add-mul}
use native.Mathlib.Omega.{arith}
use lib.ListN.{length, get_or}
use borrow.Author.Tests.{eq-eqb, ne_eqb}
use Rattle.layout.specs.Layout.{fifth_width, width, count, offset, ending, record_at}
use Rattle.layout.specs.Owner.{Place}

-- a word times the words of a record
pub scaled : (a w : ℕ) → a < 2 ^ 32 → w < 8 → a * w ≤ 2 ^ 35
scaled a w ha hw = let h : a * w ≤ a * 8 = mul-le-mul_left a (omega arith) in omega arith

-- the widths but the last do not depend on the edition
pub plain-width : (e t f : ℕ) → (t ≡ 5 → ⊥)
    → (get_or (2 ∷ 3 ∷ 4 ∷ 4 ∷ 2 ∷ f ∷ []) t 0 ≡ width e t) × (get_or (2 ∷ 3 ∷ 4 ∷ 4 ∷ 2 ∷ f ∷ []) t 0 < 8)
plain-width e zero f h = (refl, omega arith)
plain-width e (suc zero) f h = (refl, omega arith)
plain-width e (suc (suc zero)) f h = (refl, omega arith)
plain-width e (suc (suc (suc zero))) f h = (refl, omega arith)
plain-width e (suc (suc (suc (suc zero)))) f h = (refl, omega arith)
plain-width e (suc (suc (suc (suc (suc zero))))) f h = absurd (h refl)
plain-width e (suc (suc (suc (suc (suc (suc t)))))) f h = (refl, omega arith)

-- i records and one more
one_more : (i w : ℕ) → (i + 1) * w ≡ i * w + w
one_more i w = omega (arith, add-mul i 1 w)

-- the place of record i, as a loop has it from its table's offset and width
pub placed : {e : ℕ} {b : List ℕ} {t i n o w : ℕ} → i < n → n ≡ count b t → o ≡ offset b t → w ≡ width e t
    → ending e b t ≤ length b → Place e b t i (o + i * w)
placed {e} {b} {t} {i} {n} {o} {w} l hn ho hw h =
    let m : (i + 1) * w ≤ n * w = mul-le-mul_right w (omega arith) in
    let p : n * w ≡ count b t * width e t = cc in
    record { here = cc; inside = omega (arith, one_more i w) }

-- the place of the record before
pub place-before : (e : ℕ) (b : List ℕ) (t i at : ℕ) → at ≡ record_at e b t i → (i ≡ 0 → ⊥)
    → (width e t ≤ at) × (at - width e t ≡ record_at e b t (i - 1))
place-before e b t i at h z =
    let p : i - 1 + 1 ≡ i = omega arith in
    let q : (i - 1 + 1) * width e t ≡ i * width e t = cc in
    (omega (arith, one_more (i - 1) (width e t)), omega (arith, one_more (i - 1) (width e t)))

-- a record of table 5 is a constraint or an atom
pub three_wide : {e : ℕ} → e ≡ 2 → fifth_width e ≡ 3
unfolding fifth_width
three_wide h = simp (eq-eqb _ _ h)

pub six_wide : {e : ℕ} → (e ≡ 2 → ⊥) → fifth_width e ≡ 6
unfolding fifth_width
six_wide h = simp (ne_eqb _ _ h)

-- what holds of each table
pub tables : (P : ℕ → Type 0) → P 0 → P 1 → P 2 → P 3 → P 4 → P 5 → (t : ℕ) → t < 6 → P t
tables P p q r s u v zero l = p
tables P p q r s u v (suc zero) l = q
tables P p q r s u v (suc (suc zero)) l = r
tables P p q r s u v (suc (suc (suc zero))) l = s
tables P p q r s u v (suc (suc (suc (suc zero)))) l = u
tables P p q r s u v (suc (suc (suc (suc (suc zero))))) l = v
tables P p q r s u v (suc (suc (suc (suc (suc (suc t)))))) l = absurd (omega arith)
