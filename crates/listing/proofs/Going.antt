-- Words that are written run by run: `Going` says how far a writer has come and what is left to write. A loop's invariant is what is left, so
-- its laws follow the definitions' own recursion. Also: what is read run by run (`gather`), and runs that stop at a limit. Assumes nothing.
use mathlib.Core.Path.{◌≡◌, refl, sym, ap, ◌∙◌}
use mathlib.Core.Bool.{Bool, true, false}
use Prim.Native.Nat.{ℕ, zero, suc, ◌+◌, ◌-◌, ◌*◌, ◌≤◌, ◌<◌}
use native.Mathlib.Nat.{mul-add}
use native.Mathlib.Omega.{arith}
use mathlib.Core.List.{List, [], ◌∷◌, ◌++◌}
use lib.ListN.{length, get_or, take, drop, set, length-append, length-take, drop_of_length-le}
use lib.Seq.{drop-cons, take-nil, take_at}
use native.Mathlib.Numerals.{add-one}
use Rattle.words.specs.Runs.{run}
use Rattle.words.specs.Least.{first}
use Rattle.words.proofs.Least.{first_hit, first_miss}
use Rattle.words.specs.Write.{puts, Wrote, Has}
use Rattle.words.proofs.Write.{puts_append, length-puts, then, puts_eq}
use Rattle.listing.specs.Items.{gather, up_to}

-- of the words `all`, put into l₀ from at₀ on, those before `at` are in l, and `rest` is left
pub record Going (l₀ : List ℕ) (at₀ : ℕ) (all l : List ℕ) (at : ℕ) (rest : List ℕ) : Type 0 where
  pub same : puts l₀ at₀ all ≡ puts l at rest
  pub next : at₀ + length all ≡ at + length rest
  pub long : length l ≡ length l₀

-- nothing is written yet
pub begin : (l : List ℕ) (at : ℕ) (all : List ℕ) → Going l at all l at all
begin l at all = record { same = refl; next = refl; long = refl }

pub start : {all rest : List ℕ} (l : List ℕ) (at : ℕ) → all ≡ rest → Going l at all l at rest
start {all} l at e = rw (← e) (begin l at all)

-- one run more is written
pub go : {l₀ all l l' rest xs ys : List ℕ} {at₀ at at' : ℕ} → Going l₀ at₀ all l at rest → rest ≡ xs ++ ys → Wrote l l' at at' xs → Going l₀ at₀ all l' at' ys
go {l₀} {all} {l} {l'} {rest} {xs} {ys} {at₀} {at} {at'} g e w = record {
  same = g.same ∙ ap (puts l at) e ∙ puts_append l at xs ys ∙ ap (λ (m : List ℕ). puts m (at + length xs) ys) (sym w.same) ∙ ap (λ (k : ℕ). puts l' k ys) (sym w.next);
  next = omega (arith, g.next, ap length e, length-append xs ys, w.next);
  long = ap length w.same ∙ length-puts l at xs ∙ g.long;
}

-- nothing is left
pub done : {l₀ all l rest : List ℕ} {at₀ at : ℕ} → Going l₀ at₀ all l at rest → rest ≡ [] → Wrote l₀ l at₀ at all
done {l₀} {all} {l} {rest} {at₀} {at} g e = record {
  same = sym (g.same ∙ ap (puts l at) e);
  next = omega (arith, g.next, ap length e);
}

-- there is room for what is left
pub room : {l₀ all l rest : List ℕ} {at₀ at : ℕ} → Has l₀ at₀ all → Going l₀ at₀ all l at rest → Has l at rest
room h g = record { fits = omega (arith, h.fits, g.next, g.long) }

-- ---- runs that stop at the limit L

cut : {A : Type 0} (n : ℕ) (xs ys : List A) → take n (xs ++ ys) ≡ take n xs ++ take (n - length xs) ys
cut zero xs ys =
    let e : 0 - length xs ≡ 0 = omega arith in
    rw e
cut (suc n) [] ys =
    let e : suc n - 0 ≡ suc n = omega arith in
    rw e
cut (suc n) (x ∷ xs) ys =
    let e : suc n - suc (length xs) ≡ n - length xs = omega arith in
    rw (e, cut n xs ys)

-- of two runs: the second begins where the first ended
pub cut_at : (L n a : ℕ) (xs ys : List ℕ) → a ≡ n + length (up_to L n xs) → up_to L n (xs ++ ys) ≡ up_to L n xs ++ up_to L a ys
unfolding up_to
cut_at L n a xs ys h =
    let e : L - n - length xs ≡ L - a = omega (arith, length-take (L - n) xs) in
    rw (cut (L - n) xs ys, e)

-- so one behind the other they are both, as far as the limit
pub then_cut : {b m c all : List ℕ} {n a r : ℕ} (L : ℕ) (xs ys : List ℕ) → all ≡ xs ++ ys → Wrote b m n a (up_to L n xs) → Wrote m c a r (up_to L a ys) → Wrote b c n r (up_to L n all)
then_cut {n = n} {a = a} L xs ys e p q = rw (e, cut_at L n a xs ys p.next) (then p q)

-- a loop begins, goes on, and ends
pub start_cut : {all rest : List ℕ} (L : ℕ) (l : List ℕ) (at : ℕ) → all ≡ rest → Going l at (up_to L at all) l at (up_to L at rest)
start_cut L l at e = start l at (ap (up_to L at) e)

pub go_cut : {l₀ all l l' : List ℕ} {at₀ at at' : ℕ} (L : ℕ) (rest xs ys : List ℕ) → Going l₀ at₀ all l at (up_to L at rest)
    → rest ≡ xs ++ ys → Wrote l l' at at' (up_to L at xs) → Going l₀ at₀ all l' at' (up_to L at' ys)
go_cut {at = at} {at' = at'} L rest xs ys g e w = go g (ap (up_to L at) e ∙ cut_at L at at' xs ys w.next) w

pub done_cut : {l₀ all l : List ℕ} {at₀ at : ℕ} (L : ℕ) (rest : List ℕ) → Going l₀ at₀ all l at (up_to L at rest) → rest ≡ [] → Wrote l₀ l at₀ at all
unfolding up_to
done_cut {at = at} L rest g e = done g (ap (up_to L at) e ∙ take-nil (L - at))

pub cut_full : (L n : ℕ) (xs : List ℕ) → L ≤ n → up_to L n xs ≡ []
unfolding up_to
cut_full L n xs h =
    let e : L - n ≡ 0 = omega arith in
    rw e

pub cut_none : (L n : ℕ) → up_to L n [] ≡ []
unfolding up_to
cut_none L n = take-nil (L - n)

-- one word, where there is room before the limit
pub cut_one : (L n x : ℕ) → n < L → up_to L n (x ∷ []) ≡ x ∷ []
unfolding up_to
cut_one L n x h =
    let e : L - n ≡ suc (L - n - 1) = omega arith in
    rw e (ap (λ (l : List ℕ). x ∷ l) (take-nil (L - n - 1)))

-- ---- records that are read one behind another

-- where record i + 1 stands, of records w long from o on
pub next_place : (o w i : ℕ) → o + w * i + w ≡ o + w * (i + 1)
next_place o w i = rw mul-add (omega arith)

-- a loop at number i of n: one more, or none
pub gather_more : (f : ℕ → List ℕ) (w n i o : ℕ) → i < n → gather f w (n - i) (o + w * i) ≡ f (o + w * i) ++ gather f w (n - (i + 1)) (o + w * (i + 1))
unfolding gather
gather_more f w n i o h =
    let e : n - i ≡ suc (n - (i + 1)) = omega arith in
    rw (e, next_place o w i)

pub gather_none : (f : ℕ → List ℕ) (w n i at : ℕ) → n ≤ i → gather f w (n - i) at ≡ []
unfolding gather
gather_none f w n i at h =
    let e : n - i ≡ 0 = omega arith in
    rw e

pub run_more : {A : Type 0} (f : ℕ → A) (w n i at : ℕ) → i < n → run f w (n - i) at ≡ f at ∷ run f w (n - (i + 1)) (at + w)
unfolding run
run_more f w n i at h =
    let e : n - i ≡ suc (n - (i + 1)) = omega arith in
    rw e

pub run_none : {A : Type 0} (f : ℕ → A) (w n i at : ℕ) → n ≤ i → run f w (n - i) at ≡ []
unfolding run
run_none f w n i at h =
    let e : n - i ≡ 0 = omega arith in
    rw e

-- the same of a list that a loop goes over by its indexes
pub drop_more : (l : List ℕ) (i : ℕ) → i < length l → drop i l ≡ get_or l i 0 ∷ drop (i + 1) l
drop_more l i h = rw (add-one i) (drop-cons l i 0 h)

pub drop-none : (l : List ℕ) (i : ℕ) → length l ≤ i → drop i l ≡ []
drop-none l i h = drop_of_length-le l h

-- at the loop's start
pub gather-all : (f : ℕ → List ℕ) (w n o : ℕ) → gather f w n o ≡ gather f w (n - 0) (o + w * 0)
gather-all f w n o =
    let e : n - 0 ≡ n = omega arith in
    let p : o + w * 0 ≡ o = omega arith in
    rw (e, p)

pub run-all : {A : Type 0} (f : ℕ → A) (w n o : ℕ) → run f w n o ≡ run f w (n - 0) (o + w * 0)
run-all f w n o =
    let e : n - 0 ≡ n = omega arith in
    let p : o + w * 0 ≡ o = omega arith in
    rw (e, p)

-- words that were put from 0 on stand there
pub front : {l l' ws : List ℕ} {n m : ℕ} → Wrote l l' 0 n ws → m ≡ n → n ≤ length l → take m l' ≡ ws
front {l} {l'} {ws} {n} {m} w q h =
    let e : length ws ≡ m = omega (arith, w.next) in
    rw (w.same, puts_eq l 0 ws (omega (arith, w.next))) (take_at ws (drop (0 + length ws) l) m e)

-- one word put
pub put_one : (l : List ℕ) (at x : ℕ) {y : ℕ} → x ≡ y → Wrote l (set l at x) at (at + 1) (y ∷ [])
put_one l at x e = rw (← e) (record { same = refl; next = refl })

-- ---- the first of a run's records that passes a test, as a loop finds it: what is left of the search

module _ {A : Type 0} (p : A → Bool) (f : ℕ → A) (w n o : ℕ) where
  pub seek_start : first p (run f w n o) ≡ 0 + first p (run f w (n - 0) (o + w * 0))
  seek_start = rw (← run-all f w n o) (omega arith)

  module _ (i whole : ℕ) (h : whole ≡ i + first p (run f w (n - i) (o + w * i))) where
    pub seek_hit : i < n → p (f (o + w * i)) ≡ true → i ≡ whole
    seek_hit l e =
        omega (arith, h, ap (first p) (run_more f w n i (o + w * i) l), first_hit p (f (o + w * i)) (run f w (n - (i + 1)) (o + w * i + w)) e)

    pub seek_miss : i < n → p (f (o + w * i)) ≡ false → whole ≡ i + 1 + first p (run f w (n - (i + 1)) (o + w * (i + 1)))
    seek_miss l e =
        rw (← next_place o w i)
        (omega (arith, h, ap (first p) (run_more f w n i (o + w * i) l), first_miss p (f (o + w * i)) (run f w (n - (i + 1)) (o + w * i + w)) e))

    pub seek_end : n ≤ i → i ≡ whole
    unfolding first
    seek_end l = omega (arith, h, ap (first p) (run_none f w n i (o + w * i) l))
