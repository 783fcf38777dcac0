-- Of a good book every table, record and range lies inside, the ranges are running sums, and each number has one owner. Assumes nothing.
use mathlib.Core.Path.{◌≡◌, refl, sym, ◌∙◌, ap, subst}
use mathlib.Core.Logic.{◌↔◌, ⊎_elim}
use mathlib.Core.List.{List}
use Prim.Native.Nat.{ℕ, zero, suc, ◌+◌, ◌-◌, ◌*◌, ◌≤◌, ◌<◌}
use native.Mathlib.Nat.{add-zero, suc-mul, mul-le-mul_right, eq-or-lt_of_le, le_of_suc-le-suc}
use native.Mathlib.Omega.{arith}
use lib.ListN.{length}
use borrow.Author.Tests.{ltb-true, ltb-false, lt-ltb, le-ltb, ne_eqb}
use Rattle.words.specs.Words.{word}
use Rattle.words.specs.Least.{least, Clear}
use Rattle.words.proofs.Least.{least_law, least_at}
use Rattle.layout.specs.Layout.{fifth_width, width, count, offset, ending, begins, record_at, field, ends, starts, reaches, owner}
use Rattle.layout.proofs.Bounds.{tables}
use Rattle.records.specs.Wrong.{Range}
use Rattle.book.specs.Sound.{RangeSound, Sound}

-- ---- tables and records

-- "Table 0 begins at word 14, each next where the one before ends", in plain sums
pub record Offsets (e : ℕ) (b : List ℕ) : Type 0 where
  pub variables : offset b 0 ≡ 14
  pub values : offset b 1 ≡ 14 + count b 0 * 2
  pub rules : offset b 2 ≡ 14 + count b 0 * 2 + count b 1 * 3
  pub alternatives : offset b 3 ≡ 14 + count b 0 * 2 + count b 1 * 3 + count b 2 * 4
  pub names : offset b 4 ≡ 14 + count b 0 * 2 + count b 1 * 3 + count b 2 * 4 + count b 3 * 4
  pub asks : offset b 5 ≡ 14 + count b 0 * 2 + count b 1 * 3 + count b 2 * 4 + count b 3 * 4 + count b 4 * 2
  pub all : length b ≡ 14 + count b 0 * 2 + count b 1 * 3 + count b 2 * 4 + count b 3 * 4 + count b 4 * 2 + count b 5 * fifth_width e

module _ {e : ℕ} {b : List ℕ} (s : Sound e b) where
  -- a sound book has these
  pub offsets : Offsets e b
  unfolding begins
  offsets =
      let at = s.header.offsets in
      let whole = s.whole in
      let h0 : offset b 0 ≡ 14 = at 0 (omega arith) in
      let h1 : offset b 1 ≡ ending e b 0 = at 1 (omega arith) in
      let h2 : offset b 2 ≡ ending e b 1 = at 2 (omega arith) in
      let h3 : offset b 3 ≡ ending e b 2 = at 3 (omega arith) in
      let h4 : offset b 4 ≡ ending e b 3 = at 4 (omega arith) in
      let h5 : offset b 5 ≡ ending e b 4 = at 5 (omega arith) in
      omega arith

  -- each table ends within the book
  table_inside : (t : ℕ) → t < 6 → ending e b t ≤ length b
  table_inside =
      let o = offsets in
      tables (λ t. ending e b t ≤ length b) (omega arith) (omega arith) (omega arith) (omega arith) (omega arith) (omega arith)

  -- and so does each of its records
  pub record_inside : (t : ℕ) → t < 6 → (i : ℕ) → i < count b t → record_at e b t i + width e t ≤ length b
  record_inside t l i h = omega (arith, table_inside t l, suc-mul i (width e t), mul-le-mul_right (width e t) h)

-- ---- ranges: at word j of table t, into the table `into`

-- the first word of a record
pub first_word : (e : ℕ) (b : List ℕ) (t i : ℕ) → field e b t i 0 ≡ word b (record_at e b t i)
first_word e b t i = rw add-zero

-- record k of a range is below the next table's count
pub in_range : {e : ℕ} {b : List ℕ} {r : Range} {i : ℕ} → RangeSound e b r i
    → (k : ℕ) → k < field e b r.table i (r.word + 1) → field e b r.table i r.word + k < count b r.into
in_range s k l = omega arith

-- the ranges "follow each other from 0 without gaps and use all of" the next table
pub record Ranges (e : ℕ) (b : List ℕ) (t j into : ℕ) : Type 0 where
  pub follows : (i : ℕ) → i < count b t → field e b t i j ≡ starts e b t j i
  pub used : starts e b t j (count b t) ≡ count b into

module _ {e : ℕ} {b : List ℕ} (s : Sound e b) where
  -- a sound book's ranges are so: a variable's values, a rule's alternatives, an alternative's names, and what it asks
  pub value_ranges : Ranges e b 0 0 1
  value_ranges = record { follows = λ i l. (s.variables i l).follows; used = s.values_used }

  pub alternative_ranges : Ranges e b 2 2 3
  alternative_ranges = record { follows = λ i l. (s.rules i l).alternatives.follows; used = s.alternatives_used }

  pub name_ranges : Ranges e b 3 0 4
  name_ranges = record { follows = λ i l. (s.alternatives i l).names.follows; used = s.names_used }

  pub ask_ranges : Ranges e b 3 2 5
  ask_ranges = record { follows = λ i l. (s.alternatives i l).asks.follows; used = s.asks_used }

module _ (e : ℕ) (b : List ℕ) (t j : ℕ) where
  -- the numbers of the records before record i, together
  unfoldable pub numbers_before : ℕ → ℕ
  numbers_before zero = 0
  numbers_before (suc i) = numbers_before i + field e b t i (j + 1)

  -- each record but the first starts where the one before ends
  pub starts-next : (i : ℕ) → starts e b t j (suc i) ≡ ends e b t j i
  unfolding starts
  starts-next i =
      let k : suc i - 1 ≡ i = omega arith in
      rw (ne_eqb (suc i) 0 (omega arith), k)

  -- the expected start is the running sum
  pub starts-before : (i : ℕ) → ((k : ℕ) → k < i → field e b t k j ≡ starts e b t j k) → starts e b t j i ≡ numbers_before i
  unfolding starts numbers_before
  starts-before zero h = refl
  starts-before (suc i) h =
      starts-next i ∙ ap (λ (n : ℕ). n + field e b t i (j + 1)) (h i (omega arith) ∙ starts-before i (λ k l. h k (omega arith)))

-- number i lies in the range of record a
pub record Owns (e : ℕ) (b : List ℕ) (t j a i : ℕ) : Type 0 where
  pub there : a < count b t
  pub from : field e b t a j ≤ i
  pub until : i < ends e b t j a

module _ {e : ℕ} {b : List ℕ} {t j into : ℕ} (r : Ranges e b t j into) where
  -- an earlier range ends before a later one starts
  ends-before : (a : ℕ) → a ≤ count b t → (m : ℕ) → m < a → ends e b t j m ≤ starts e b t j a
  ends-before zero l m h = absurd (omega arith)
  ends-before (suc a) l m h =
      let next = starts-next e b t j a in
      ⊎_elim
      (λ q. omega (arith, ap (ends e b t j) q))
      (λ q. omega (arith, ends-before a (omega arith) m q, r.follows a l))
      (eq-or-lt_of_le (le_of_suc-le-suc h))

  -- every range ends within the next table
  pub ends_inside : (a : ℕ) → a < count b t → ends e b t j a ≤ count b into
  ends_inside a l = omega (arith, ends-before (count b t) (omega arith) a l, r.used)

  -- where no range before record a reaches number i, a starts at i or before
  starts-within : (i a : ℕ) → Clear (reaches e b t j i) a → starts e b t j a ≤ i
  unfolding starts
  starts-within i zero h = omega arith
  starts-within i (suc a) h = omega (arith, starts-next e b t j a, ltb-false i (ends e b t j a) (h a (omega arith)))

  -- every number below the next table's count lies in the range of its owner
  pub owner_owns : (i : ℕ) → i < count b into → Owns e b t j (owner e b t j i) i
  unfolding owner
  owner_owns i l =
      let n : ℕ = count b t in
      let a : ℕ = least n (reaches e b t j i) in
      let q = least_law n (reaches e b t j i) in
      let start = starts-within i a q.clear in
      let there : a < n = ⊎_elim (λ h. absurd (omega (arith, ap (starts e b t j) h, r.used))) (λ h. h) (eq-or-lt_of_le q.within) in
      record { there = there; from = omega (arith, r.follows a there); until = ltb-true i (ends e b t j a) (q.here there) }

  -- and each number of the range of record a has the owner a
  pub owner_at : (a : ℕ) → a < count b t → (k : ℕ) → k < field e b t a (j + 1) → owner e b t j (field e b t a j + k) ≡ a
  unfolding owner
  owner_at a l k h =
      let i : ℕ = field e b t a j + k in
      sym
      (least_at (count b t) (reaches e b t j i) a
      (λ m q. le-ltb i (ends e b t j m) (omega (arith, ends-before a (omega arith) m q, r.follows a l)))
      l
      (lt-ltb i (ends e b t j a) (omega arith)))

  -- so a fact of each number and its owner is a fact of each record and each number of its range
  pub owned : (P : ℕ → ℕ → Type 0)
      → ((i : ℕ) → i < count b into → P (owner e b t j i) i)
      ↔ ((a : ℕ) → a < count b t → (k : ℕ) → k < field e b t a (j + 1) → P a (field e b t a j + k))
  owned P = (
    λ h a l k m. subst (λ (n : ℕ). P n (field e b t a j + k)) (owner_at a l k m) (h (field e b t a j + k) (omega (arith, ends_inside a l))),
    λ h i l.
        let o = owner_owns i l in
        let a : ℕ = owner e b t j i in
        let at : field e b t a j + (i - field e b t a j) ≡ i = omega arith in
        subst (P a) at (h a o.there (i - field e b t a j) (omega arith)),
  )
