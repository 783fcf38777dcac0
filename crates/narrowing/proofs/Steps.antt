-- Cutting step by step: each step is a cut that keeps every closed table below it, the words' sum falls where anything changes, and a pass
-- that changes nothing leaves a closed table. Assumes nothing.
use mathlib.Core.Path.{◌≡◌, refl, sym, ap, ◌∙◌, subst}
use mathlib.Core.Bool.{Bool, true, false, ◌&&◌, true≢false, false≢true}
use mathlib.Core.Logic.{⊎_elim}
use mathlib.Core.List.{List, [], ◌∷◌}
use Prim.Native.Nat.{ℕ, zero, suc, ◌+◌, ◌*◌, ◌/◌, ◌%◌, ◌≤◌, ◌<◌}
use native.Mathlib.Nat.{eq-or-lt_of_le, le_of_suc-le-suc}
use native.Mathlib.Numerals.{add-one}
use native.Mathlib.Omega.{arith}
use lib.Dec.{eqb}
use lib.Bits.{and_le_l}
use lib.ListN.{length, get_or, set, length-set}
use lib.Seq.{get_or-set_same, get_or-set_other, set-get_or}
use borrow.Author.Tests.{eqb-true, eqb-false}
use Rattle.words.specs.Words.{in_set}
use Rattle.composition.proofs.Sets.{in_and, both, and_both}
use Rattle.composition.proofs.Algebra.{compose_mono}
use Rattle.narrowing.specs.Narrowed.{Sub, Closed, Cut, Narrowed, cut_word, across, before, behind, step_word, step, sum}
use Rattle.narrowing.specs.Passes.{CutOnce, Passed}
use Rattle.narrowing.proofs.Places.{below, places, div_cell, mod_cell}

-- ---- one step

-- the word at p after a store at q
pub stored : (m : List ℕ) (p q v : ℕ) (b : Bool) → eqb p q ≡ b → q < length m → (P : ℕ → Type 0) → (p ≡ q → P v) → P (get_or m p 0) → P (get_or (set m q v) p 0)
stored m p q v true e l P f g = let h : p ≡ q = eqb-true p q e in rw (h, get_or-set_same m q v 0 l) (f h)
stored m p q v false e l P f g = rw (get_or-set_other m q p v 0 (eqb-false p q e)) g

module _ (n t : ℕ) (m : List ℕ) (h : t < n * n * n) (l : n * n ≤ length m) where
  pub step_cut : Cut n m (step n t m)
  unfolding step_word cut_word
  step_cut =
      let a = places n t h in
      let over = a.over in
      let w = step_word n t m in
      record {
        size = length-set m (across n t) w;
        rest = λ p k. stored m p (across n t) w (eqb p (across n t)) refl (omega arith) (λ v. v ≡ get_or m p 0) (λ e. absurd (omega arith)) refl;
        within =
            λ p. stored m p (across n t) w (eqb p (across n t)) refl (omega arith) (λ v. Sub v (get_or m p 0))
            (λ e r i. rw e (both _ _ (sym (in_and (get_or m (across n t) 0) _ r) ∙ i)).0) (λ r i. i);
        keeps =
            λ x c s p k. stored m p (across n t) w (eqb p (across n t)) refl (omega arith) (λ v. Sub (x p) v)
            (λ e r i. let here : in_set (x (across n t)) r ≡ true = rw e at i in
            in_and (get_or m (across n t) 0) _ r
            ∙ and_both (s (across n t) over r here)
            (compose_mono _ _ _ _ (s (before n t) a.front) (s (behind n t) a.back) r (c _ _ _ a.first a.second a.third r here)))
            (s p k);
      }

-- ---- a step for every three tokens

-- the step at which i and j are cut by way of k, and its three places
abbrev step_of : ℕ → ℕ → ℕ → ℕ → ℕ
step_of n i k j = (k * n + i) * n + j

record At (n i k j : ℕ) : Type 0 where
  in_pass : step_of n i k j < n * n * n
  over : across n (step_of n i k j) ≡ i * n + j
  front : before n (step_of n i k j) ≡ i * n + k
  back : behind n (step_of n i k j) ≡ k * n + j

at : (n i k j : ℕ) → i < n → k < n → j < n → At n i k j
at n i k j a b c =
    let t = step_of n i k j in
    let q : t / n ≡ k * n + i = div_cell n (k * n + i) j c in
    let first : t / n % n ≡ i = rw q (mod_cell n k i a) in
    let second : t / n / n ≡ k = rw q (div_cell n k i a) in
    let third : t % n ≡ j = mod_cell n (k * n + i) j c in
    record {
      in_pass = below (k * n + i) (n * n) j n (below k n i n b a) c;
      over = rw (first, third);
      front = rw (first, second);
      back = rw (second, third);
    }

-- one cut, of any two by way of any third
pub cut_one : (n i k j : ℕ) (m : List ℕ) → i < n → k < n → j < n → n * n ≤ length m → Cut n m (set m (i * n + j) (cut_word m (i * n + j) (i * n + k) (k * n + j)))
unfolding step_word
cut_one n i k j m a b c l =
    let t = at n i k j a b c in
    rw (t.over, t.front, t.back) at (step_cut n (step_of n i k j) m t.in_pass l)

-- a table of which no cut changes anything is closed
pub closed_when : (n : ℕ) (m : List ℕ) → ((i k j : ℕ) → i < n → k < n → j < n → cut_word m (i * n + j) (i * n + k) (k * n + j) ≡ get_or m (i * n + j) 0)
    → Closed n (λ p. get_or m p 0)
unfolding cut_word
closed_when n m f i k j a b c r h =
    (both (in_set (get_or m (i * n + j) 0) r) _ (sym (in_and _ _ r) ∙ ap (λ (v : ℕ). in_set v r) (f i k j a b c) ∙ h)).1

-- and so is one that no step changes
pub closed_if : (n : ℕ) (m : List ℕ) → ((t : ℕ) → t < n * n * n → step_word n t m ≡ get_or m (across n t) 0) → Closed n (λ p. get_or m p 0)
unfolding step_word
closed_if n m f =
    closed_when n m (λ i k j a b c. let t = at n i k j a b c in rw (t.over, t.front, t.back) at (f (step_of n i k j) t.in_pass))

-- ---- one cut after another

pub cut_none : (n : ℕ) (m : List ℕ) → Cut n m m
cut_none n m = record { size = refl; rest = λ p h. refl; within = λ p r h. h; keeps = λ x c s. s }

pub cut_then : {n : ℕ} {a b c : List ℕ} → Cut n a b → Cut n b c → Cut n a c
cut_then f g =
    record {
      size = g.size ∙ f.size;
      rest = λ p h. g.rest p h ∙ f.rest p h;
      within = λ p r h. f.within p r (g.within p r h);
      keeps = λ x c s. g.keeps x c (f.keeps x c s);
    }

-- ---- the words' sum falls where anything changes

sum-set : (m : List ℕ) (i v : ℕ) → i < length m → sum (set m i v) + get_or m i 0 ≡ sum m + v
unfolding sum
sum-set [] i v h = absurd (omega arith)
sum-set (x ∷ xs) zero v h = omega arith
sum-set (x ∷ xs) (suc i) v h = omega (arith, sum-set xs i v (omega arith))

step_le : (n t : ℕ) (m : List ℕ) → step_word n t m ≤ get_or m (across n t) 0
unfolding step_word cut_word
step_le n t m = and_le_l _ _

-- ---- a pass: the first k steps, and whether none of them changed anything

pub passed_none : (n : ℕ) (m : List ℕ) → Passed n 0 m m true
passed_none n m = record { cut = cut_none n m; kept = λ _. refl; still = λ _ t h. absurd (omega arith); less = λ e. absurd (true≢false e) }

module _ (n t : ℕ) (start m : List ℕ) (h : t < n * n * n) (l : n * n ≤ length start) where
  pub passed_more : (same kept : Bool) → Passed n t start m same → kept ≡ eqb (get_or m (across n t) 0) (step_word n t m)
      → Passed n (suc t) start (step n t m) (same && kept)
  passed_more same kept p e =
      let size = p.cut.size in
      let c = cut_then p.cut (step_cut n t m h (omega arith)) in
      let over = (places n t h).over in
      let s = sum-set m (across n t) (step_word n t m) (omega arith) in
      more same kept p e c s
    where
      more : (same kept : Bool) → Passed n t start m same → kept ≡ eqb (get_or m (across n t) 0) (step_word n t m) → Cut n start (step n t m)
          → sum (step n t m) + get_or m (across n t) 0 ≡ sum m + step_word n t m → Passed n (suc t) start (step n t m) (same && kept)
      more true true p e c s =
          let w : get_or m (across n t) 0 ≡ step_word n t m = eqb-true _ _ (sym e) in
          let q : m ≡ start = p.kept refl in
          record {
            cut = c;
            kept = λ _. rw (← w) (set-get_or m (across n t) 0 ∙ q);
            still = λ _ u k. ⊎_elim (λ i. rw (← q) (subst (λ (x : ℕ). step_word n x m ≡ get_or m (across n x) 0) (sym i) (sym w))) (λ j. p.still refl u j) (eq-or-lt_of_le (le_of_suc-le-suc k));
            less = λ f. absurd (true≢false f);
          }
      more true false p e c s =
          let w : get_or m (across n t) 0 ≡ step_word n t m → ⊥ = eqb-false _ _ (sym e) in
          let q : sum m ≡ sum start = ap sum (p.kept refl) in
          record { cut = c; kept = λ f. absurd (false≢true f); still = λ f. absurd (false≢true f); less = λ _. omega (arith, step_le n t m, s, q, w) }
      more false kept p e c s =
          let q = p.less refl in
          record { cut = c; kept = λ f. absurd (false≢true f); still = λ f. absurd (false≢true f); less = λ _. omega (arith, step_le n t m, s, q) }

-- the same in the words of the code
pub passed-step : (n t : ℕ) (start m after : List ℕ) (same kept : Bool) → t < n * n * n → n * n ≤ length start → Passed n t start m same
    → CutOnce m after (across n t) (step_word n t m) kept → Passed n (t + 1) start after (same && kept)
passed-step n t start m after same kept h l p c = rw (add-one t, c.put) (passed_more n t start m h l same kept p c.told)

-- a whole pass that changed nothing
pub passed_narrow : {n : ℕ} {first start after : List ℕ} → Cut n first start → Passed n (n * n * n) start after true → Narrowed n first after
passed_narrow {n} {start = start} c p =
    record { cut = cut_then c p.cut; closed = rw (p.kept refl) (closed_if n start (p.still refl)) }
