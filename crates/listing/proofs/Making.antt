-- The laws of making the list: one rule more, and what is known once all are listed. Assumes nothing.
use mathlib.Core.Path.{◌≡◌}
use mathlib.Core.Bool.{true, false}
use Prim.Native.Nat.{ℕ, ◌+◌, ◌-◌, ◌*◌, ◌≤◌, ◌<◌}
use native.Mathlib.Omega.{arith}
use mathlib.Core.List.{List, [], ◌∷◌, ◌++◌}
use borrow.Author.Tests.{lt-ltb, le-ltb}
use lib.ListN.{length, length-take, length-map}
use lib.Seq.{take_all}
use Rattle.words.specs.Words.{word}
use Rattle.words.specs.Runs.{run}
use Rattle.words.specs.Least.{first}
use Rattle.words.specs.Write.{Wrote}
use Rattle.layout.specs.Layout.{count, offset}
use Rattle.listing.specs.Listed.{Fits, RuleFits, sizes_from}
use Rattle.listing.specs.Items.{all_items, alt_of, gather, items_at, items_from, rule_for, rule_items, rules_by, up_to}
use Rattle.listing.proofs.Going.{gather-all, gather_more, next_place, run-all, run_more, run_none, seek_start}
use Rattle.listing.specs.Expand.{too_many}

-- one alternative more, with the numbers as the code has them
pub more_items : (s : List ℕ) (n i o base part k : ℕ) → i < n → base ≡ offset s 5 → part ≡ word s (o + 4 * i + 2) → k ≡ word s (o + 4 * i + 3)
    → gather (items_at s) 4 (n - i) (o + 4 * i) ≡ items_from s k (base + 3 * part) (o + 4 * i) 16384 0 ++ gather (items_at s) 4 (n - (i + 1)) (o + 4 * (i + 1))
unfolding items_at
more_items s n i o base part k l hb hp hk = rw (hb, hp, hk) (gather_more (items_at s) 4 n i o l)

-- the same of a rule
pub rule_items_lem : (s : List ℕ) (q base part k : ℕ) → base ≡ offset s 3 → part ≡ word s (q + 2) → k ≡ word s (q + 3)
    → gather (items_at s) 4 k (base + 4 * part) ≡ rule_items s q
unfolding rule_items
rule_items_lem s q base part k hb hp hk = rw (hb, hp, hk)

-- 65 of a rule's items were asked for: fewer came, so they are all
pub wrote_all : {l l' : List ℕ} {n m : ℕ} (xs : List ℕ) → Wrote l l' n m (up_to (n + 65) n xs) → m - n ≤ 64 → Wrote l l' n m xs
unfolding up_to
wrote_all {l} {l'} {n} {m} xs w h =
    let e : n + 65 - n ≡ 65 = omega arith in
    let few : length xs ≤ n + 65 - n = omega (arith, w.next, length-take (n + 65 - n) xs) in
    rw (← take_all (n + 65 - n) xs few) w

-- all 65 came: there are over 64
pub wrote_over : {l l' : List ℕ} {n m : ℕ} (xs : List ℕ) → Wrote l l' n m (up_to (n + 65) n xs) → 64 < m - n → 64 < length xs
unfolding up_to
wrote_over {l} {l'} {n} {m} xs w h = omega (arith, w.next, length-take (n + 65 - n) xs)

module _ (s : List ℕ) (q : ℕ) where
  long : length (rule_for s q).alternatives ≡ length (rule_items s q)
  unfolding rule_for
  long = length-map (rule_items s q) (alt_of s)

  pub many : 64 < length (rule_items s q) → too_many (rule_for s q) ≡ true
  unfolding too_many
  many h = lt-ltb 64 (length (rule_for s q).alternatives) (omega (arith, long))

  pub not_many : length (rule_items s q) ≤ 64 → too_many (rule_for s q) ≡ false
  unfolding too_many
  not_many h = le-ltb 64 (length (rule_for s q).alternatives) (omega (arith, long))

-- what list_rules starts with, goes on with and ends with; n is the local that holds the number of rules, and o the place of the first
module _ (s : List ℕ) (n o : ℕ) (hn : n ≡ count s 2) (ho : o ≡ offset s 2) where
  pub items_start : all_items s ≡ gather (rule_items s) 4 (n - 0) (o + 4 * 0)
  unfolding all_items
  items_start = rw (hn, ho) (gather-all (rule_items s) 4 (count s 2) (offset s 2))

  pub sizes-start : sizes_from s (count s 2) (offset s 2) ≡ sizes_from s (n - 0) (o + 4 * 0)
  unfolding sizes_from
  sizes-start = rw (hn, ho) (run-all (λ (k : ℕ). length (rule_items s k)) 4 (count s 2) (offset s 2))

  pub rules_start : first too_many (rules_by s) ≡ 0 + first too_many (run (rule_for s) 4 (n - 0) (o + 4 * 0))
  unfolding rules_by
  rules_start = rw (hn, ho) (seek_start too_many (rule_for s) 4 (count s 2) (offset s 2))

pub sizes_more : (s : List ℕ) (n i o : ℕ) → i < n → sizes_from s (n - i) (o + 4 * i) ≡ length (rule_items s (o + 4 * i)) ∷ sizes_from s (n - (i + 1)) (o + 4 * (i + 1))
unfolding sizes_from
sizes_more s n i o l = rw (← next_place o 4 i) (run_more (λ (k : ℕ). length (rule_items s k)) 4 n i (o + 4 * i) l)

pub sizes-none : (s : List ℕ) (n i q : ℕ) → n ≤ i → sizes_from s (n - i) q ≡ []
unfolding sizes_from
sizes-none s n i q l = run_none (λ (k : ℕ). length (rule_items s k)) 4 n i q l

-- a rule's numbers as the code has them
module _ (s : List ℕ) (q base part k : ℕ) (hb : base ≡ offset s 3) (hp : part ≡ word s (q + 2)) (hk : k ≡ word s (q + 3)) where
  -- its alternatives lie within, and have few constraints
  pub fits_at : (i : ℕ) → Fits s → i < count s 2 → q ≡ offset s 2 + 4 * i
      → (base + 4 * part + 4 * k ≤ 16384) × ((j : ℕ) → j < k → word s (base + 4 * part + 4 * j + 3) ≤ 8)
  fits_at i f l e =
      let at : q ≡ offset s 2 + i * 4 = omega arith in
      let g : RuleFits s q = rw at (f.rules i l) in
      (omega (arith, g.inside), rw (hb, hp, hk) g.asks)

  module _ {l l' : List ℕ} {n m : ℕ} (w : Wrote l l' n m (up_to (n + 65) n (gather (items_at s) 4 k (base + 4 * part)))) where
    -- all its items are listed, or there are too many
    pub all-at : m - n ≤ 64 → Wrote l l' n m (rule_items s q)
    all-at h = rw (← rule_items_lem s q base part k hb hp hk) (wrote_all _ w h)

    pub few_at : m - n ≤ 64 → too_many (rule_for s q) ≡ false
    few_at h = not_many s q (omega (arith, (all-at h).next))

    pub over_at : 64 < m - n → too_many (rule_for s q) ≡ true
    over_at h = many s q (rw (← rule_items_lem s q base part k hb hp hk) (wrote_over _ w h))
