-- The rules that are read off the items are the rules that the sheet becomes: THE LAWS `rules_are` and `alternatives_are`. Each choice
-- of relations is one item, in the same order, and is read back from it digit by digit. Assumes nothing.
use mathlib.Core.Path.{◌≡◌, refl, sym, ap, ◌∙◌}
use mathlib.Core.Bool.{Bool, true, false, cond}
use Prim.Native.Nat.{ℕ, zero, suc, ◌+◌, ◌*◌, ◌/◌, ◌%◌, ◌≤◌, ◌<◌}
use native.Mathlib.Nat.{add-zero, mul-zero, mul-add, mul_assoc}
use native.Mathlib.Omega.{arith}
use mathlib.Core.List.{List, [], ◌∷◌, ◌++◌, map, flat_map, map-map, map-append}
use lib.Dec.{lit<}
use Rattle.words.specs.Words.{word, in_set}
use Rattle.words.specs.Runs.{run}
use Rattle.words.specs.Lists.{All}
use Rattle.layout.specs.Layout.{count, offset}
use Rattle.book.specs.Rules.{constraint_at, alternative_at, rule_at, rules_of}
use Rattle.book.specs.Encode.{constraints, alts_of}
use Rattle.allen.specs.Relation.{thirteen}
use Rattle.listing.specs.Listed.{Fits, RuleFits}
use Rattle.listing.specs.Items.{all_items, alt_of, asks_for, asks_from, gather, items_at, items_from, names_for, rels_from, rule_for, rule_items, rules_by}
use Rattle.listing.specs.Expand.{atoms_for, choices, expand, keep, relations_in, rules_for, translate}

-- a choice as one number: the first relation is the lowest digit
unfoldable pub code_of : List ℕ → ℕ
code_of [] = 0
code_of (y ∷ ys) = y + 16 * code_of ys

-- k relations, each a digit
abbrev Choice : ℕ → List ℕ → Type 0
Choice zero [] = Unit
Choice zero (y ∷ ys) = ⊥
Choice (suc k) [] = ⊥
Choice (suc k) (y ∷ ys) = (y < 16) × Choice k ys

-- ---- laws of lists

map_same : {A B : Type 0} (P : A → Type 0) (f g : A → B) → ((x : A) → P x → f x ≡ g x) → (xs : List A) → All P xs → map f xs ≡ map g xs
map_same P f g h [] a = refl
map_same P f g h (x ∷ xs) a = rw (h x a.0, map_same P f g h xs a.1)

map_every : {A B : Type 0} (f g : A → B) → ((x : A) → f x ≡ g x) → (xs : List A) → map f xs ≡ map g xs
map_every f g h [] = refl
map_every f g h (x ∷ xs) = rw (h x, map_every f g h xs)

all_append : {A : Type 0} (P : A → Type 0) (xs ys : List A) → All P xs → All P ys → All P (xs ++ ys)
all_append P [] ys a b = b
all_append P (x ∷ xs) ys a b = (a.0, all_append P xs ys a.1 b)

-- ---- the items are the choices

worth : (acc m y c : ℕ) → acc + m * y + m * 16 * c ≡ acc + m * (y + 16 * c)
worth acc m y c = rw (mul_assoc m 16 c, mul-add m y (16 * c)) (omega arith)

module _ (s : List ℕ) where
  abbrev Are : ℕ → Type 0
  Are k = (at acc m : ℕ) → items_from s k at acc m 0 ≡ map (λ (ks : List ℕ). acc + m * code_of ks) (choices (run (constraint_at s) 3 k at))

  items_each : (k at acc m : ℕ) → Are k → (ys : List ℕ)
      → flat_map (λ (y : ℕ). items_from s k (at + 3) (acc + m * y) (m * 16) 0) ys
      ≡ map (λ (ks : List ℕ). acc + m * code_of ks) (flat_map (λ (y : ℕ). map (λ (rest : List ℕ). y ∷ rest) (choices (run (constraint_at s) 3 k (at + 3)))) ys)
  unfolding flat_map code_of
  items_each k at acc m ih [] = refl
  items_each k at acc m ih (y ∷ ys) =
      let c : List (List ℕ) = choices (run (constraint_at s) 3 k (at + 3)) in
      let f : List ℕ → ℕ = λ ks. acc + m * code_of ks in
      let first : items_from s k (at + 3) (acc + m * y) (m * 16) 0 ≡ map f (map (λ (rest : List ℕ). y ∷ rest) c) =
      ih (at + 3) (acc + m * y) (m * 16) ∙ map_every _ _ (λ ks. worth acc m y (code_of ks)) c ∙ sym (map-map f (λ (rest : List ℕ). y ∷ rest) c) in
      rw (first, items_each k at acc m ih ys) (sym (map-append f (map (λ (rest : List ℕ). y ∷ rest) c) _))

  items_are : (k : ℕ) → Are k
  unfolding items_from choices run code_of rels_from relations_in constraint_at
  items_are zero at acc m = rw (mul-zero, add-zero)
  items_are (suc k) at acc m = items_each k at acc m (items_are k) (relations_in (word s (at + 2)))

  -- ---- a choice is read back

  asks_are : (k at : ℕ) (ks : List ℕ) → Choice k ks → asks_from s k at (code_of ks) ≡ atoms_for (run (constraint_at s) 3 k at) ks
  unfolding asks_from atoms_for run code_of constraint_at
  asks_are zero at [] h = refl
  asks_are zero at (y ∷ ys) h = absurd h
  asks_are (suc k) at [] h = absurd h
  asks_are (suc k) at (y ∷ ys) h =
      let digit : (y + 16 * code_of ys) % 16 ≡ y = omega (arith, h.0) in
      let rest : (y + 16 * code_of ys) / 16 ≡ code_of ys = omega (arith, h.0) in
      rw (digit, rest, asks_are k (at + 3) ys h.1)

  -- every choice is one
  keep_small : (p : ℕ → Bool) (xs : List ℕ) → All (λ (y : ℕ). y < 16) xs → All (λ (y : ℕ). y < 16) (keep p xs)
  unfolding keep
  keep_small p [] h = tt
  keep_small p (x ∷ xs) h = step (p x) (keep_small p xs h.1)
    where
      step : (t : Bool) → All (λ (y : ℕ). y < 16) (keep p xs) → All (λ (y : ℕ). y < 16) (cond t (x ∷ keep p xs) (keep p xs))
      step true a = (h.0, a)
      step false a = a

  small : (set : ℕ) → All (λ (y : ℕ). y < 16) (relations_in set)
  unfolding relations_in
  small set =
      keep_small (in_set set) thirteen (lit< tt, (lit< tt, (lit< tt, (lit< tt, (lit< tt, (lit< tt, (lit< tt, (lit< tt, (lit< tt, (lit< tt, (lit< tt, (lit< tt, (lit< tt, tt)))))))))))))

  cons_choice : (k y : ℕ) → y < 16 → (xs : List (List ℕ)) → All (Choice k) xs → All (Choice (suc k)) (map (λ (rest : List ℕ). y ∷ rest) xs)
  cons_choice k y l [] a = tt
  cons_choice k y l (x ∷ xs) a = ((l, a.0), cons_choice k y l xs a.1)

  each_choice : (k : ℕ) (xs : List (List ℕ)) → All (Choice k) xs → (ys : List ℕ) → All (λ (y : ℕ). y < 16) ys
      → All (Choice (suc k)) (flat_map (λ (y : ℕ). map (λ (rest : List ℕ). y ∷ rest) xs) ys)
  unfolding flat_map
  each_choice k xs a [] b = tt
  each_choice k xs a (y ∷ ys) b =
      all_append (Choice (suc k)) (map (λ (rest : List ℕ). y ∷ rest) xs) _ (cons_choice k y b.0 xs a) (each_choice k xs a ys b.1)

  all-choices : (k at : ℕ) → All (Choice k) (choices (run (constraint_at s) 3 k at))
  unfolding choices run constraint_at
  all-choices zero at = (tt, tt)
  all-choices (suc k) at = each_choice k (choices (run (constraint_at s) 3 k (at + 3))) (all-choices k (at + 3)) (relations_in (word s (at + 2))) (small (word s (at + 2)))

  -- ---- alternatives, rules, and the whole

  expand-is : (p : ℕ) → p < 16384 → expand (alternative_at constraints s p) ≡ map (alt_of s) (items_at s p)
  unfolding expand items_at alternative_at alt_of names_for asks_for
  expand-is p l =
      let k : ℕ = word s (p + 3) in
      let at : ℕ = offset s 5 + 3 * word s (p + 2) in
      let c : List (List ℕ) = choices (run (constraint_at s) 3 k at) in
      sym
      (ap (map (alt_of s)) (items_are k at p 16384)
      ∙ map-map (alt_of s) (λ (ks : List ℕ). p + 16384 * code_of ks) c
      ∙ map_same (Choice k) _ _ (λ ks h. one ks h) c (all-choices k at))
    where
      one : (ks : List ℕ) → Choice (word s (p + 3)) ks
          → alt_of s (p + 16384 * code_of ks)
          ≡ record { names = names_for s p; asks = atoms_for (run (constraint_at s) 3 (word s (p + 3)) (offset s 5 + 3 * word s (p + 2))) ks }
      one ks h =
          let place : (p + 16384 * code_of ks) % 16384 ≡ p = omega arith in
          let code : (p + 16384 * code_of ks) / 16384 ≡ code_of ks = omega arith in
          rw (place, code, asks_are (word s (p + 3)) (offset s 5 + 3 * word s (p + 2)) ks h)

  expand-all : (n at : ℕ) → at + 4 * n ≤ 16384 → flat_map expand (run (alternative_at constraints s) 4 n at) ≡ map (alt_of s) (gather (items_at s) 4 n at)
  unfolding flat_map run gather
  expand-all zero at l = refl
  expand-all (suc n) at l =
      rw (expand-is at (omega arith), expand-all n (at + 4) (omega arith)) (sym (map-append (alt_of s) (items_at s at) (gather (items_at s) 4 n (at + 4))))

  rule_is : (q : ℕ) → RuleFits s q → translate (rule_at constraints s q) ≡ rule_for s q
  unfolding translate rule_at rule_for rule_items
  rule_is q f = rw (expand-all (word s (q + 3)) (offset s 3 + 4 * word s (q + 2)) f.inside)

  rules_from_lem : (n q : ℕ) → ((i : ℕ) → i < n → RuleFits s (q + i * 4)) → map translate (run (rule_at constraints s) 4 n q) ≡ run (rule_for s) 4 n q
  unfolding run
  rules_from_lem zero q f = refl
  rules_from_lem (suc n) q f =
      let here : q + 0 * 4 ≡ q = omega arith in
      let first : RuleFits s q = rw here at (f 0 (omega arith)) in
      let next : (i : ℕ) → i < n → RuleFits s (q + 4 + i * 4) = λ i l. later i (f (suc i) (omega arith)) in
      rw (rule_is q first, rules_from_lem n (q + 4) next)
    where
      later : (i : ℕ) → RuleFits s (q + suc i * 4) → RuleFits s (q + 4 + i * 4)
      later i f =
          let e : q + suc i * 4 ≡ q + 4 + i * 4 = omega arith in
          rw e at f

  -- THE LAWS
  pub rules_are : Fits s → rules_for s ≡ rules_by s
  unfolding rules_for rules_of rules_by
  rules_are f = rules_from_lem (count s 2) (offset s 2) f.rules

  alternatives_from : (n q : ℕ) → alts_of (run (rule_for s) 4 n q) ≡ map (alt_of s) (gather (rule_items s) 4 n q)
  unfolding flat_map run gather rule_for
  alternatives_from zero q = refl
  alternatives_from (suc n) q = rw (alternatives_from n (q + 4)) (sym (map-append (alt_of s) (rule_items s q) (gather (rule_items s) 4 n (q + 4))))

  pub alternatives_are : alts_of (rules_by s) ≡ map (alt_of s) (all_items s)
  unfolding rules_by all_items
  alternatives_are = alternatives_from (count s 2) (offset s 2)
