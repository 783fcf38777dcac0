-- The times that are shown: where each stands in the table, that of two choices the earlier shows the earlier, and that copying them one by
-- one lays them at the start of the lent words. Assumes nothing.
use mathlib.Core.Path.{◌≡◌, refl, sym, ap, ◌∙◌}
use mathlib.Core.Logic.{⊎_elim}
use mathlib.Core.List.{List, [], ◌∷◌}
use Prim.Native.Nat.{ℕ, zero, suc, ◌+◌, ◌*◌, ◌≤◌, ◌<◌, min}
use native.Mathlib.Nat.{eq-or-lt_of_le}
use native.Mathlib.Omega.{arith}
use lib.ListN.{length, get_or, set, length-set}
use lib.Seq.{get_or-set_same, get_or-set_other, ext_get_or}
use borrow.Author.Count.{below_more}
use Rattle.clock.proofs.Laws.{lt_or_ge}
use Rattle.bounds.specs.Bounds.{times}
use Rattle.earliest.specs.Times.{Times, shown_from, laid}
use Rattle.earliest.specs.Steps.{times_of, table_times, ShownAt, Copied}

-- ---- where they stand

pub shown-long : (x : Times) (k n : ℕ) → length (shown_from x k n) ≡ 2 * n + 1
unfolding shown_from
shown-long x k zero = refl
shown-long x k (suc n) = omega (arith, shown-long x (k + 1) n)

shown-token : (z : ℕ → ℕ) (k n i : ℕ) → i < 2 * n → get_or (shown_from (times_of z) k n) i 0 ≡ z (2 * k + 1 + i)
unfolding shown_from
shown-token z k zero i l = absurd (omega arith)
shown-token z k (suc n) zero l = ap z (omega arith)
shown-token z k (suc n) (suc zero) l = ap z (omega arith)
shown-token z k (suc n) (suc (suc i)) l = shown-token z (k + 1) n i (omega arith) ∙ ap z (omega arith)

shown-last : (z : ℕ → ℕ) (k n i : ℕ) → i ≡ 2 * n → get_or (shown_from (times_of z) k n) i 0 ≡ z 11
unfolding shown_from
shown-last z k zero zero e = refl
shown-last z k zero (suc i) e = absurd (omega arith)
shown-last z k (suc n) zero e = absurd (omega arith)
shown-last z k (suc n) (suc zero) e = absurd (omega arith)
shown-last z k (suc n) (suc (suc i)) e = shown-last z (k + 1) n i (omega arith)

pub shown_there : (x : List ℕ) (k n i r : ℕ) → i ≤ 2 * n → ShownAt x k n i r → r ≡ get_or (shown_from (table_times x) k n) i 0
shown_there x k n i r l h =
    ⊎_elim
    (λ (e : i ≡ 2 * n). h.last e ∙ sym (shown-last (times x) k n i e))
    (λ (e : i < 2 * n). h.token e ∙ sym (shown-token (times x) k n i e))
    (eq-or-lt_of_le l)

-- of two choices of times, one whose times are not later shows none that is later
pub shown_le : (x y : Times) (k n : ℕ) → ((j : ℕ) → j < k + n → (x.start j ≤ y.start j) × (x.end j ≤ y.end j)) → x.plan_end ≤ y.plan_end
    → (i : ℕ) → get_or (shown_from x k n) i 0 ≤ get_or (shown_from y k n) i 0
unfolding shown_from
shown_le x y k zero h e zero = e
shown_le x y k zero h e (suc i) = omega arith
shown_le x y k (suc n) h e zero = (h k (omega arith)).0
shown_le x y k (suc n) h e (suc zero) = (h k (omega arith)).1
shown_le x y k (suc n) h e (suc (suc i)) = shown_le x y (k + 1) n (λ j l. h j (omega arith)) e i

-- ---- laid at the start

laid-long : (before ts : List ℕ) → length (laid before ts) ≡ length before
unfolding laid
laid-long [] ts = refl
laid-long (w ∷ ws) [] = refl
laid-long (w ∷ ws) (t ∷ ts) = ap suc (laid-long ws ts)

pub laid-here : (before ts : List ℕ) (i : ℕ) → i < length ts → i < length before → get_or (laid before ts) i 0 ≡ get_or ts i 0
unfolding laid
laid-here [] ts i l m = absurd (omega arith)
laid-here (w ∷ ws) [] i l m = absurd (omega arith)
laid-here (w ∷ ws) (t ∷ ts) zero l m = refl
laid-here (w ∷ ws) (t ∷ ts) (suc i) l m = laid-here ws ts i (omega arith) (omega arith)

pub laid-rest : (before ts : List ℕ) (i : ℕ) → length ts ≤ i → get_or (laid before ts) i 0 ≡ get_or before i 0
unfolding laid
laid-rest [] ts i l = refl
laid-rest (w ∷ ws) [] i l = refl
laid-rest (w ∷ ws) (t ∷ ts) zero l = absurd (omega arith)
laid-rest (w ∷ ws) (t ∷ ts) (suc i) l = laid-rest ws ts i (omega arith)

-- ---- copied one by one

pub copied-set : {f : ℕ → ℕ} {n : ℕ} {before l : List ℕ} (r : ℕ) → n < length l → r ≡ f n → Copied f n before l → Copied f (n + 1) before (set l n r)
copied-set {f} {n} {before} {l} r m e c = record {
  long = length-set l n r ∙ c.long;
  here = below_more
      (λ i. i < length before → get_or (set l n r) i 0 ≡ f i)
      n
      (λ i p q. get_or-set_other l n i r 0 (λ s. omega arith) ∙ c.here i p q)
      (λ _. get_or-set_same l n r 0 m ∙ e);
  rest = λ i p. get_or-set_other l n i r 0 (λ s. omega arith) ∙ c.rest i (omega arith);
}

copied-laid : (ts : List ℕ) {before l : List ℕ} → Copied (λ i. get_or ts i 0) (length ts) before l → l ≡ laid before ts
copied-laid ts {before} {l} c =
    let long = c.long in
    ext_get_or 0 l (laid before ts) (long ∙ sym (laid-long before ts))
    (λ i m.
    ⊎_elim
    (λ (p : i < length ts). c.here i p (omega arith) ∙ sym (laid-here before ts i p (omega arith)))
    (λ (p : length ts ≤ i). c.rest i p ∙ sym (laid-rest before ts i p))
    (lt_or_ge i (length ts)))

-- all that there was room for was copied
pub all-copied : (ts : List ℕ) {before l : List ℕ} (m : ℕ) → m ≡ min (length ts) (length before) → Copied (λ i. get_or ts i 0) m before l
    → l ≡ laid before ts
all-copied ts {before} m e c =
    copied-laid
    ts
    (record { long = c.long; here = λ i p q. c.here i (omega arith) q; rest = λ i p. c.rest i (omega arith) })
