-- What is kept of a list: a fact of each is one of each that is kept, what adds up isn't more, and what is made of the kept ones is what is
-- kept of what is made. Assumes nothing.
use mathlib.Core.Path.{◌≡◌, refl, sym, ap, ◌∙◌}
use mathlib.Core.Bool.{Bool, true, false, cond}
use mathlib.Core.List.{List, [], ◌∷◌, map, flat_map}
use Prim.Native.Nat.{ℕ, suc, ◌+◌, ◌-◌, ◌*◌, ◌≤◌}
use native.Mathlib.Omega.{arith}
use lib.Dec.{eqb}
use lib.ListN.{length, length-append}
use Rattle.words.specs.Lists.{any, All}
use Rattle.words.specs.Runs.{run}
use Rattle.layout.specs.Layout.{count, offset}
use Rattle.book.specs.Rules.{Atom, Alternative, Rule, rule_at, rules_of}
use Rattle.book.specs.Encode.{atoms, alts_of, names_of, asks_of}
use Rattle.writing.proofs.Left.{flat_append}
use Rattle.closing.specs.Left.{numbers_from, rule_in}
use Rattle.closing.proofs.Whole.{run-numbers}
use Rattle.removal.specs.Removed.{kept}
use Rattle.removal.specs.Left.{left_from}

-- by cases of the test
by : {A : Type 0} (P : List A → Type 0) (t : Bool) (x : A) (xs : List A) → P xs → P (x ∷ xs) → P (cond t xs (x ∷ xs))
by P true x xs h k = h
by P false x xs h k = k

module _ {A : Type 0} (numbers : List ℕ) where
  pub kept-all : (P : A → Type 0) (i : ℕ) (xs : List A) → All P xs → All P (kept numbers i xs)
  unfolding kept
  kept-all P i [] h = tt
  kept-all P i (x ∷ xs) h =
      let rest = kept-all P (suc i) xs h.1 in
      by (All P) (any (eqb i) numbers) x (kept numbers (suc i) xs) rest (h.0, rest)

  -- `size` adds up what `one` gives of each
  pub kept_less : (size : List A → ℕ) (one : A → ℕ) → ((x : A) (xs : List A) → size (x ∷ xs) ≡ one x + size xs)
      → (i : ℕ) (xs : List A) → size (kept numbers i xs) ≤ size xs
  unfolding kept
  kept_less size one adds i [] = omega arith
  kept_less size one adds i (x ∷ xs) =
      let ih = kept_less size one adds (suc i) xs in
      let all = adds x xs in
      by (λ ys. size ys ≤ size (x ∷ xs)) (any (eqb i) numbers) x (kept numbers (suc i) xs)
      (omega arith) (omega (arith, adds x (kept numbers (suc i) xs)))

  pub kept_map : {B : Type 0} (f : B → A) (i : ℕ) (xs : List B) → map f (kept numbers i xs) ≡ kept numbers i (map f xs)
  unfolding kept
  kept_map f i [] = refl
  kept_map f i (x ∷ xs) = step (any (eqb i) numbers) (kept_map f (suc i) xs)
    where
      step : (t : Bool) → map f (kept numbers (suc i) xs) ≡ kept numbers (suc i) (map f xs)
          → map f (cond t (kept numbers (suc i) xs) (x ∷ kept numbers (suc i) xs))
          ≡ cond t (kept numbers (suc i) (map f xs)) (f x ∷ kept numbers (suc i) (map f xs))
      step true e = e
      step false e = ap (λ (l : List A). f x ∷ l) e

-- so no table of the kept rules is longer
pub record Fewer (some all : List (Rule Atom)) : Type 0 where
  pub rules : length some ≤ length all
  pub alternatives : length (alts_of some) ≤ length (alts_of all)
  pub names : length (names_of (alts_of some)) ≤ length (names_of (alts_of all))
  pub asks : length (asks_of (alts_of some)) ≤ length (asks_of (alts_of all))

module _ {X : Type 0} (of : Alternative Atom → List X) where
  -- what the alternatives of a rule and of those behind it have
  parts_add : (r : Rule Atom) (rs : List (Rule Atom))
      → length (flat_map of (alts_of (r ∷ rs))) ≡ length (flat_map of r.alternatives) + length (flat_map of (alts_of rs))
  unfolding flat_map
  parts_add r rs = ap length (flat_append of r.alternatives (alts_of rs)) ∙ length-append (flat_map of r.alternatives) (flat_map of (alts_of rs))

pub fewer : (numbers : List ℕ) (i : ℕ) (rules : List (Rule Atom)) → Fewer (kept numbers i rules) rules
unfolding flat_map
fewer numbers i rules =
    record {
      rules = kept_less numbers length (λ x. 1) (λ x xs. omega arith) i rules;
      alternatives =
          kept_less numbers (λ (rs : List (Rule Atom)). length (alts_of rs)) (λ (r : Rule Atom). length r.alternatives)
          (λ r rs. length-append r.alternatives (alts_of rs)) i rules;
      names =
          kept_less numbers (λ (rs : List (Rule Atom)). length (names_of (alts_of rs))) (λ (r : Rule Atom). length (names_of r.alternatives))
          (parts_add (λ (a : Alternative Atom). a.names)) i rules;
      asks =
          kept_less numbers (λ (rs : List (Rule Atom)). length (asks_of (alts_of rs))) (λ (r : Rule Atom). length (asks_of r.alternatives))
          (parts_add (λ (a : Alternative Atom). a.asks)) i rules;
    }

-- the kept rules of a book, by their numbers
pub rules_are : (b list : List ℕ) → map (rule_in b) (left_from list (count b 2) 0) ≡ kept list 0 (rules_of atoms b)
unfolding left_from rule_in rules_of
rules_are b list =
    let all : count b 2 - 0 ≡ count b 2 = omega arith in
    let at : offset b 2 + 4 * 0 ≡ offset b 2 = omega arith in
    rw all (kept_map list (λ x. rule_at atoms b (offset b 2 + 4 * x)) 0 (numbers_from (count b 2) 0)
    ∙ ap (kept list 0) (sym (run-numbers (rule_at atoms b) 4 (offset b 2) (count b 2) 0) ∙ ap (run (rule_at atoms b) 4 (count b 2)) at))
