-- The laws of what specs/Least defines. Assumes nothing.
use mathlib.Core.Path.{◌≡◌, refl, sym, ap, ◌∙◌, subst}
use mathlib.Core.Bool.{Bool, true, false, ◌||◌, cond, not}
use mathlib.Core.Logic.{◌↔◌, ⊎_elim}
use mathlib.Core.List.{List, [], ◌∷◌}
use Prim.Native.Nat.{ℕ, zero, suc, ◌+◌, ◌≤◌, ◌<◌}
use native.Mathlib.Nat.{eq-or-lt_of_le}
use borrow.Author.Count.{below_more}
use native.Mathlib.Omega.{arith}
use lib.Dec.{ltb}
use lib.ListN.{length, get_or}
use borrow.Author.Tests.{ltb-false, le-ltb}
use Rattle.std.specs.Prelude.{Some, None}
use Rattle.std.specs.List.{position, position_or_len}
use Rattle.std.specs.Option.{unwrap_or}
use Rattle.words.specs.Lists.{any}
use Rattle.words.specs.Least.{least_from, least, first, Clear, Least}

-- what `least_from n i p` is
record From (n i : ℕ) (p : ℕ → Bool) (r : ℕ) : Type 0 where
  low : i ≤ r
  high : r ≤ i + n
  clear : (k : ℕ) → i ≤ k → k < r → p k ≡ false
  here : r < i + n → p r ≡ true

-- one index more in front
from_step : (n i : ℕ) (p : ℕ → Bool) (t : Bool) → p i ≡ t → (r : ℕ) → From n (suc i) p r → From (suc n) i p (elim t [ true ↦ i | false ↦ r ])
from_step n i p true e r h = record { low = omega arith; high = omega arith; clear = λ k a b. absurd (omega arith); here = λ _. e }
from_step n i p false e r h =
    let low = h.low in
    let high = h.high in
    record {
      low = omega arith;
      high = omega arith;
      clear = λ k a b. ⊎_elim (λ q. subst (λ (m : ℕ). p m ≡ false) q e) (λ l. h.clear k l b) (eq-or-lt_of_le a);
      here = λ l. h.here (omega arith);
    }

-- `least_from n i p` is so
from_law : (n i : ℕ) (p : ℕ → Bool) → From n i p (least_from n i p)
from_law zero i p = record { low = omega arith; high = omega arith; clear = λ k a b. absurd (omega arith); here = λ l. absurd (omega arith) }
from_law (suc n) i p = from_step n i p (p i) refl (least_from n (suc i) p) (from_law n (suc i) p)

-- `least n p` is the least
pub least_law : (n : ℕ) (p : ℕ → Bool) → Least n p (least n p)
unfolding least
least_law n p =
    let h = from_law n 0 p in
    let high = h.high in
    record { within = omega arith; clear = λ k l. h.clear k (omega arith) l; here = λ l. h.here (omega arith) }

-- a test does not both fail and hold
clash : {t : Bool} → t ≡ false → t ≡ true → ⊥
clash f e =
    let z : true ≡ false = sym e ∙ f in
    let o : ◌≡◌ {A = ℕ} 0 1 = cc in
    omega arith

-- of two least numbers none is below the other
never : {n : ℕ} {p : ℕ → Bool} {r s : ℕ} → Least n p r → Least n p s → r < s → ⊥
never {r = r} a b l =
    let w = b.within in
    clash (b.clear r l) (a.here (omega arith))

-- no other number is the least
pub least-is : {n : ℕ} {p : ℕ → Bool} {r : ℕ} → Least n p r → r ≡ least n p
least-is {n} {p} {r} a =
    let b = least_law n p in
    let f : r < least n p → ⊥ = never a b in
    let g : least n p < r → ⊥ = never b a in
    omega arith

-- a loop that begins: nothing is passed
pub clear_none : (p : ℕ → Bool) → Clear p 0
clear_none p k l = absurd (omega arith)

-- a loop that goes on: one more is passed
pub clear_more : (p : ℕ → Bool) (i : ℕ) → Clear p i → p i ≡ false → Clear p (i + 1)
clear_more p = below_more (λ k. p k ≡ false)

-- a loop that has found p at i
pub least_at : (n : ℕ) (p : ℕ → Bool) (i : ℕ) → Clear p i → i < n → p i ≡ true → i ≡ least n p
least_at n p i h l e = least-is (record { within = omega arith; clear = h; here = λ _. e })

-- a loop that has passed all n
pub least-end : (n : ℕ) (p : ℕ → Bool) (i : ℕ) → Clear p i → i ≤ n → n ≤ i → i ≡ least n p
least-end n p i h l g = least-is (record { within = l; clear = h; here = λ k. absurd (omega arith) })

-- nothing holds below i: the least is not below it
pub least_ge : (n : ℕ) (p : ℕ → Bool) (i : ℕ) → Clear p i → i ≤ n → i ≤ least n p
least_ge n p i h l =
    let q = least_law n p in
    let z : least n p < i → ⊥ = λ m. clash (h _ m) (q.here (omega arith)) in
    omega arith

-- the least is not below n just where nothing below n holds
pub none_below : (n : ℕ) (p : ℕ → Bool) → (ltb (least n p) n ≡ false) ↔ Clear p n
none_below n p = (
  λ h k l. (least_law n p).clear k (omega (arith, ltb-false (least n p) n h)),
  λ h. le-ltb (least n p) n (omega (arith, least-end n p n h (omega arith) (omega arith))),
)

-- the same as a loop's record has them, for `search (needs, scan)`: m is the local that holds n, and f the flag that the test gave
pub scan_more : {p : ℕ → Bool} {i : ℕ} {f : Bool} → Clear p i → f ≡ p i → f ≡ false → Clear p (i + 1)
scan_more {p} {i} h e q = clear_more p i h (sym e ∙ q)

pub scan_at : {n m : ℕ} {p : ℕ → Bool} {i : ℕ} {f : Bool} → Clear p i → i < m → m ≡ n → f ≡ p i → f ≡ true → i ≡ least n p
scan_at {n} {m} {p} {i} h l s e q = least_at n p i h (omega arith) (sym e ∙ q)

pub scan_end : {n m : ℕ} {p : ℕ → Bool} {i : ℕ} → Clear p i → i ≤ m → m ≤ i → m ≡ n → i ≡ least n p
scan_end {n} {m} {p} {i} h l g s = least-end n p i h (omega arith) (omega arith)

-- the same where the loop's end is the answer
pub scan_all : {n m : ℕ} {p : ℕ → Bool} {i : ℕ} → Clear p i → i ≤ m → m ≤ i → m ≡ n → m ≡ least n p
scan_all {n} {m} {p} {i} h l g s = omega (arith, scan_end h l g s)

-- all of them, to search with
pub ruleset scan = (clear_none, scan_more, scan_at, scan_end)

-- ---- laws of the list form

module _ {A : Type 0} (p : A → Bool) where
  -- one element more in front
  first_cons : (d x : A) (xs : List A) (t : Bool) → p x ≡ t → (r : ℕ) → Least (length xs) (λ i. p (get_or xs i d)) r
      → Least (suc (length xs)) (λ i. p (get_or (x ∷ xs) i d)) (cond t 0 (suc r))
  first_cons d x xs true e r h = record { within = omega arith; clear = λ k l. absurd (omega arith); here = λ _. e }
  first_cons d x xs false e r h = record { within = omega arith; clear = clear; here = λ l. h.here (omega arith) }
    where
      clear : Clear (λ i. p (get_or (x ∷ xs) i d)) (suc r)
      clear zero l = e
      clear (suc k) l = h.clear k (omega arith)

  -- `first` is the least index of an element that p holds of
  pub first_law : (d : A) (xs : List A) → Least (length xs) (λ i. p (get_or xs i d)) (first p xs)
  unfolding first
  first_law d [] = record { within = omega arith; clear = λ k l. absurd (omega arith); here = λ l. absurd (omega arith) }
  first_law d (x ∷ xs) = first_cons d x xs (p x) refl (first p xs) (first_law d xs)

  -- so a loop over indexes finds it
  pub first-least : (d : A) (xs : List A) → first p xs ≡ least (length xs) (λ i. p (get_or xs i d))
  first-least d xs = least-is (first_law d xs)

  -- the first element passes
  pub first_hit : (x : A) (xs : List A) → p x ≡ true → first p (x ∷ xs) ≡ 0
  unfolding first
  first_hit x xs e = rw e

  -- it does not: the rest, one further
  pub first_miss : (x : A) (xs : List A) → p x ≡ false → first p (x ∷ xs) ≡ suc (first p xs)
  unfolding first
  first_miss x xs e = rw e

  -- at most the length
  pub first_le : (xs : List A) → first p xs ≤ length xs
  unfolding first
  first_le [] = omega arith
  first_le (x ∷ xs) = (first_law x (x ∷ xs)).within

  -- no element passes: it is the length
  pub first-none : (xs : List A) → any p xs ≡ false → first p xs ≡ length xs
  unfolding first any
  first-none [] e = refl
  first-none (x ∷ xs) e = step (p x) e (first-none xs)
    where
      step : (t : Bool) → (t || any p xs) ≡ false → (any p xs ≡ false → first p xs ≡ length xs) → cond t 0 (suc (first p xs)) ≡ suc (length xs)
      step true z rest = absurd (clash z refl)
      step false z rest = ap suc (rest z)

  -- one passes: it is below the length
  pub first_some : (xs : List A) → any p xs ≡ true → first p xs < length xs
  unfolding first any
  first_some [] e = absurd (clash refl e)
  first_some (x ∷ xs) e = step (p x) e (first_some xs)
    where
      step : (t : Bool) → (t || any p xs) ≡ true → (any p xs ≡ true → first p xs < length xs) → cond t 0 (suc (first p xs)) < suc (length xs)
      step true z rest = omega arith
      step false z rest = omega (arith, rest z)

  -- what the library's `position` gives, and the length where it gives none
  pub first_position : (xs : List A) → unwrap_or (position p xs) (length xs) ≡ first p xs
  unfolding first
  first_position xs = rw (or_len xs) (whole _ _ _ (first_le xs) refl)
    where
      or_len : (xs : List A) → position_or_len p xs ≡ first p xs
      or_len [] = refl
      or_len (x ∷ xs) = step (p x) _ _ (or_len xs)
        where
          step : (t : Bool) (n m : ℕ) → n ≡ m → cond (not t) (1 + n) 0 ≡ cond t 0 (suc m)
          step true n m h = refl
          step false n m h = omega arith

      whole : (t : Bool) (n m : ℕ) → n ≤ m → ltb n m ≡ t → unwrap_or (cond t (Some n) None) m ≡ n
      whole true n m h e = refl
      whole false n m h e = omega (arith, ltb-false n m e)
