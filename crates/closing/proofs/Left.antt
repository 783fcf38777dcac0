-- Each list and each table from an index on: one element, and what is left behind it. Assumes nothing.
use mathlib.Core.Path.{◌≡◌, refl, ap, ◌∙◌}
use mathlib.Core.List.{List, [], ◌∷◌, ◌++◌, flat_map}
use Prim.Native.Nat.{ℕ, ◌+◌, ◌-◌, ◌*◌, ◌^◌, ◌≤◌, ◌<◌}
use native.Mathlib.Nat.{mul-le-mul_right}
use native.Mathlib.Omega.{arith}
use lib.ListN.{length, get_or, length-append}
use Rattle.std.specs.List.{sum_by}
use Rattle.std.proofs.lemmas.List.Sums.{sum_by-cons}
use Rattle.words.specs.Words.{word}
use Rattle.words.specs.Runs.{rows}
use Rattle.words.proofs.Runs.{length_run}
use Rattle.layout.specs.Layout.{offset}
use Rattle.book.specs.Rules.{rule_at, alternative_at}
use Rattle.listing.proofs.Going.{run_more, run_none, drop_more, drop-none}
use Rattle.closing.specs.Left.{Ranged, numbers_from, total, rule_in, alternative_in, alternatives_of, words_at, alt_word, part, alts_from, rules_from, rows_from, parts_from, total_from}

-- ---- numbers

pub numbers-all : (n k : ℕ) → numbers_from n k ≡ numbers_from (n - 0) (k + 0)
numbers-all n k =
    let all : n - 0 ≡ n = omega arith in
    let at : k + 0 ≡ k = omega arith in
    rw (all, at)

pub numbers_more : (n i k : ℕ) → i < n → numbers_from (n - i) k ≡ (k ∷ []) ++ numbers_from (n - (i + 1)) (k + 1)
unfolding numbers_from
numbers_more n i k l = run_more (λ m. m) 1 n i k l

pub numbers-next : (n i k : ℕ) → i < n → numbers_from (n - i) (k + i) ≡ ((k + i) ∷ []) ++ numbers_from (n - (i + 1)) (k + (i + 1))
numbers-next n i k l =
    let at : k + i + 1 ≡ k + (i + 1) = omega arith in
    rw (← at) (numbers_more n i (k + i) l)

pub numbers-long : (n k : ℕ) → length (numbers_from n k) ≡ n
unfolding numbers_from
numbers-long n k = length_run (λ m. m) 1 n k

pub numbers-none : (n i k : ℕ) → n ≤ i → numbers_from (n - i) k ≡ []
unfolding numbers_from
numbers-none n i k l = run_none (λ m. m) 1 n i k l

-- ---- words as they stand

-- so many records of at most six words
pub record_words : (w n : ℕ) → w ≤ 6 → n < 2 ^ 32 → w * n < 2 ^ 35
record_words w n a b = omega (arith, mul-le-mul_right n a)

module _ (b : List ℕ) where
  pub words-all : (k n : ℕ) → words_at b k n ≡ words_at b (k + 0) (n - 0)
  words-all k n =
      let all : n - 0 ≡ n = omega arith in
      let at : k + 0 ≡ k = omega arith in
      rw (all, at)

  words_more : (k n i : ℕ) → i < n → words_at b k (n - i) ≡ (word b k ∷ []) ++ words_at b (k + 1) (n - (i + 1))
  unfolding words_at
  words_more k n i l = run_more (word b) 1 n i k l

  pub words-next : (k n i : ℕ) → i < n → words_at b (k + i) (n - i) ≡ (word b (k + i) ∷ []) ++ words_at b (k + (i + 1)) (n - (i + 1))
  words-next k n i l =
      let at : k + i + 1 ≡ k + (i + 1) = omega arith in
      rw (← at) (words_more (k + i) n i l)

  pub words_long : (k n : ℕ) → length (words_at b k n) ≡ n
  unfolding words_at
  words_long k n = length_run (word b) 1 n k

  pub words-none : (k n i : ℕ) → n ≤ i → words_at b k (n - i) ≡ []
  unfolding words_at
  words-none k n i l = run_none (word b) 1 n i k l

-- ---- what is made of each

module _ (b left : List ℕ) (i : ℕ) where
  -- what the code reads of a rule: k is the first of its n alternatives
  module _ (l : i < length left) (base x k n : ℕ) (hb : base ≡ offset b 2) (hx : x ≡ get_or left i 0) (hk : k ≡ word b (base + 4 * x + 2))
      (hn : n ≡ word b (base + 4 * x + 3)) where
    pub alts_more : alts_from b left i ≡ numbers_from n k ++ alts_from b left (i + 1)
    unfolding alts_from alternatives_of flat_map
    alts_more = rw (drop_more left i l, hn, hk, hb, hx)

    pub alts_range : Ranged b left → k + n ≤ 1024
    alts_range r = rw (hn, hk, hb, hx) (r i l)

  pub alts_none : length left ≤ i → alts_from b left i ≡ []
  unfolding alts_from flat_map
  alts_none l = rw (drop-none left i l)

  -- table 2: a rule's trigger as it stands, its first alternative anew
  module _ (l : i < length left) (base x v y n : ℕ) (hb : base ≡ offset b 2) (hx : x ≡ get_or left i 0) (hv : v ≡ word b (base + 4 * x))
      (hy : y ≡ word b (base + 4 * x + 1)) (hn : n ≡ word b (base + 4 * x + 3)) where
    pub rules_more : (k : ℕ) → rules_from b left i k ≡ (v ∷ y ∷ k ∷ n ∷ []) ++ rules_from b left (i + 1) (k + n)
    unfolding rules_from rows rule_in rule_at
    rules_more k = rw (drop_more left i l, hv, hy, hn, hb, hx, length_run)

    pub rules_add : length (alts_from b left i) ≡ n + length (alts_from b left (i + 1))
    rules_add =
        let k : ℕ = word b (base + 4 * x + 2) in
        omega (arith, ap length (alts_more l base x k n hb hx refl hn), length-append (numbers_from n k) (alts_from b left (i + 1)), numbers-long n k)

  pub rules_none : length left ≤ i → (k : ℕ) → rules_from b left i k ≡ []
  unfolding rules_from rows
  rules_none l k = rw (drop-none left i l)

module _ (b alts : List ℕ) (i : ℕ) where
  -- what the code reads of an alternative, number x
  module _ (l : i < length alts) (x : ℕ) (hx : x ≡ get_or alts i 0) where
    -- table 3: how many names and atoms as they stand, the first anew
    pub rows_more : (name n atom m : ℕ) → n ≡ alt_word b 1 x → m ≡ alt_word b 3 x
        → rows_from b alts i name atom ≡ (name ∷ n ∷ atom ∷ m ∷ []) ++ rows_from b alts (i + 1) (name + n) (atom + m)
    unfolding rows_from rows alternative_in alternative_at alt_word
    rows_more name n atom m hn hm = rw (drop_more alts i l, hn, hm, hx, length_run, length_run)

    -- tables 4 and 5
    pub parts_more : (j w o k n : ℕ) → k ≡ alt_word b j x → n ≡ alt_word b (j + 1) x
        → parts_from b alts j w o i ≡ words_at b (o + w * k) (w * n) ++ parts_from b alts j w o (i + 1)
    unfolding parts_from part flat_map
    parts_more j w o k n hk hn = rw (drop_more alts i l, hk, hn, hx)

    pub total_more : (j n : ℕ) → n ≡ alt_word b j x → total_from b alts j i ≡ n + total_from b alts j (i + 1)
    unfolding total_from total
    total_more j n hn = rw (drop_more alts i l, hn, hx)

  module _ (l : length alts ≤ i) where
    pub rows_none : (name atom : ℕ) → rows_from b alts i name atom ≡ []
    unfolding rows_from rows
    rows_none name atom = rw (drop-none alts i l)

    pub parts_none : (j w o : ℕ) → parts_from b alts j w o i ≡ []
    unfolding parts_from flat_map
    parts_none j w o = rw (drop-none alts i l)

-- ---- what a word of each adds up to

module _ (b : List ℕ) (j : ℕ) where
  pub total_sum : (alts : List ℕ) → sum_by (alt_word b j) alts ≡ total_from b alts j 0
  unfolding total_from total
  total_sum [] = refl
  total_sum (x ∷ xs) = sum_by-cons (alt_word b j) x xs ∙ ap (λ (n : ℕ). alt_word b j x + n) (total_sum xs)

  pub total_small : ((k : ℕ) → word b k < 2 ^ 32) → (alts : List ℕ) → total_from b alts j 0 ≤ length alts * 2 ^ 32
  unfolding total_from total alt_word
  total_small h [] = omega arith
  total_small h (x ∷ xs) = omega (arith, h (offset b 3 + 4 * x + j), total_small h xs)
