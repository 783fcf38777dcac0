-- A list that rises is one in order with each number below the end; and the numbers of the kept rules, from one on. Assumes nothing.
use mathlib.Core.Path.{◌≡◌, refl, sym, ◌∙◌}
use mathlib.Core.Bool.{Bool, true, false, ◌&&◌, false≢true}
use mathlib.Core.List.{List, [], ◌∷◌, ◌++◌}
use Prim.Native.Nat.{ℕ, zero, suc, ◌+◌, ◌≤◌, ◌<◌}
use native.Mathlib.Numerals.{add-one}
use native.Mathlib.Omega.{arith}
use lib.Dec.{ltb, leb, eqb}
use lib.ListN.{length, get_or}
use borrow.Author.Tests.{ne_eqb, eq-eqb, eqb-true, eqb-false, lt-ltb, ltb-true, le-leb, leb-true}
use Rattle.std.specs.Bool.{MatchBool}
use Rattle.std.specs.List.{AllWithin, HoldsAt, IsAllAdjacentAnswer, list_any}
use Rattle.words.specs.Lists.{any}
use Rattle.removal.specs.Removed.{kept}
use Rattle.removal.specs.Removal.{rising}
use Rattle.removal.specs.Left.{left_from}
use Rattle.closing.proofs.Left.{numbers_more, numbers-none}

-- ---- what rises from `from` on

-- its first is there, and the others rise behind it
pub record Risen (from n x : ℕ) (xs : List ℕ) : Type 0 where
  pub low : from ≤ x
  pub high : x < n
  pub rest : rising (x + 1) n xs ≡ true

pub risen : (from n x : ℕ) (xs : List ℕ) → rising from n (x ∷ xs) ≡ true → Risen from n x xs
unfolding rising
risen from n x xs h = by (leb from x) (ltb x n) (rising (x + 1) n xs) refl refl refl h
  where
    by : (a b c : Bool) → leb from x ≡ a → ltb x n ≡ b → rising (x + 1) n xs ≡ c → (a && (b && c)) ≡ true → Risen from n x xs
    by true true true p q r h = record { low = leb-true from x p; high = ltb-true x n q; rest = r }
    by true true false p q r h = absurd (false≢true h)
    by true false c p q r h = absurd (false≢true h)
    by false b c p q r h = absurd (false≢true h)

-- ---- the test: in order, with each number below n

-- what rises is
rising-order : (from n : ℕ) (xs : List ℕ) → rising from n xs ≡ true → (k : ℕ) → suc k < length xs → get_or xs k 0 < get_or xs (suc k) 0
rising-order from n [] h k l = absurd (omega arith)
rising-order from n (x ∷ []) h k l = absurd (omega arith)
rising-order from n (x ∷ y ∷ xs) h zero l = let low = (risen (x + 1) n y xs (risen from n x (y ∷ xs) h).rest).low in omega arith
rising-order from n (x ∷ y ∷ xs) h (suc k) l = rising-order (x + 1) n (y ∷ xs) (risen from n x (y ∷ xs) h).rest k (omega arith)

rising-below : (from n : ℕ) (xs : List ℕ) → rising from n xs ≡ true → (k : ℕ) → k < length xs → get_or xs k 0 < n
rising-below from n [] h k l = absurd (omega arith)
rising-below from n (x ∷ xs) h zero l = (risen from n x xs h).high
rising-below from n (x ∷ xs) h (suc k) l = rising-below (x + 1) n xs (risen from n x xs h).rest k (omega arith)

-- and what is rises
rising-both : (from n : ℕ) (xs : List ℕ) → ((k : ℕ) → suc k < length xs → get_or xs k 0 < get_or xs (suc k) 0)
    → ((k : ℕ) → k < length xs → get_or xs k 0 < n) → (0 < length xs → from ≤ get_or xs 0 0) → rising from n xs ≡ true
unfolding rising
rising-both from n [] o b f = refl
rising-both from n (x ∷ xs) o b f =
    rw (
      le-leb from x (f (omega arith)),
      lt-ltb x n (b 0 (omega arith)),
      rising-both (x + 1) n xs (λ k l. o (suc k) (omega arith)) (λ k l. b (suc k) (omega arith)) (λ l. let m = o 0 (omega arith) in omega arith),
    )

-- so where one of the two fails, it doesn't
falls : (n : ℕ) (xs : List ℕ) → (rising 0 n xs ≡ true → ⊥) → false ≡ rising 0 n xs
falls n xs h = go (rising 0 n xs) refl
  where
    go : (t : Bool) → rising 0 n xs ≡ t → false ≡ t
    go true e = absurd (h e)
    go false e = refl

-- a number and the next are in order, and the next is below n
abbrev pub ordered : ℕ → ℕ → ℕ → Bool
ordered n x y = ltb x y && ltb y n

ordered_lt : (n x y : ℕ) → ordered n x y ≡ true → x < y
ordered_lt n x y h = by (ltb x y) refl h
  where
    by : (a : Bool) → ltb x y ≡ a → (a && ltb y n) ≡ true → x < y
    by true p h = ltb-true x y p
    by false p h = absurd (false≢true h)

pub out-of-order : (n : ℕ) (xs : List ℕ) (r : Bool) → IsAllAdjacentAnswer (λ x y b. b ≡ ordered n x y) xs r → r ≡ false → r ≡ rising 0 n xs
out-of-order n xs true h e = absurd (false≢true (sym e))
out-of-order n xs false h e =
    falls n xs (λ q.
    let l = rw (add-one h.0) at h.1 in
    let o = lt-ltb _ _ (rising-order 0 n xs q h.0 l) in
    let b = lt-ltb _ _ (rising-below 0 n xs q (suc h.0) l) in
    false≢true (rw (o, b) at (rw (add-one h.0) at (h.2 0))))

pub in-order : (n : ℕ) (xs : List ℕ) (r a : Bool) → IsAllAdjacentAnswer (λ x y b. b ≡ ordered n x y) xs r → r ≡ true
    → MatchBool a (AllWithin (λ x. x < n) xs 0 (length xs)) ((k : ℕ) × (k < length xs) × HoldsAt (λ x. n ≤ x) xs k) → a ≡ rising 0 n xs
in-order n xs false a o e h = absurd (false≢true e)
in-order n xs true true o e h =
    sym (rising-both 0 n xs (λ k l. rw (add-one k) at (ordered_lt n _ _ (sym (o k 0 (omega arith))))) (λ k l. h k 0 (omega arith) l) (λ l. omega arith))
in-order n xs true false o e h = falls n xs (λ q. let b = rising-below 0 n xs q h.0 h.1 in let l = h.2 0 in omega arith)

-- ---- the list of the kept rules

-- whether a number is listed, as `contains` asks it
any_is : (i : ℕ) (xs : List ℕ) → list_any (λ y. eqb y i) xs ≡ any (eqb i) xs
unfolding any
any_is i [] = refl
any_is i (x ∷ xs) = rw (any_is i xs, swapped (eqb x i) (eqb i x) refl refl)
  where
    swapped : (a b : Bool) → eqb x i ≡ a → eqb i x ≡ b → eqb x i ≡ eqb i x
    swapped true b p q = p ∙ sym (eq-eqb i x (sym (eqb-true x i p)))
    swapped false b p q = p ∙ sym (ne_eqb i x (λ e. eqb-false x i p (sym e)))

module _ (list : List ℕ) (n i : ℕ) (l : i < n) (f : Bool) (e : f ≡ list_any (λ y. eqb y i) list) where
  -- rule i is listed, or it is kept
  pub listed_left : f ≡ true → left_from list n i ≡ left_from list n (i + 1)
  unfolding left_from kept
  listed_left h = rw (numbers_more n i i l, ← any_is i list, ← e, h, add-one i)

  pub kept_left : f ≡ false → left_from list n i ≡ (i ∷ []) ++ left_from list n (i + 1)
  unfolding left_from kept
  kept_left h = rw (numbers_more n i i l, ← any_is i list, ← e, h, add-one i)

pub left-none : (list : List ℕ) (n i : ℕ) → n ≤ i → left_from list n i ≡ []
unfolding left_from kept
left-none list n i l = rw (numbers-none n i i l)
