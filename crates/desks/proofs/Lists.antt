-- The loop over the list of desks: each word passed is 0 or 1. Assumes nothing.
use mathlib.Core.Path.{◌≡◌, refl, sym, ◌∙◌}
use mathlib.Core.Bool.{Bool, true, false, ◌&&◌, false≢true}
use mathlib.Core.Logic.{◌↔◌}
use mathlib.Core.List.{List, [], ◌∷◌}
use Prim.Native.Nat.{ℕ, zero, suc, ◌≤◌, ◌<◌}
use native.Mathlib.Omega.{arith}
use lib.Dec.{leb, eqb}
use lib.ListN.{length, get_or}
use borrow.Author.Tests.{eq-eqb, ne_eqb, leb-true, le-leb}
use Rattle.words.specs.Words.{word}
use Rattle.words.specs.Lists.{all}
use Rattle.layout.specs.Layout.{count}
use Rattle.desks.specs.List.{list_right}

-- ---- a test of every element, by place

module _ {A : Type 0} (p : A → Bool) (d : A) where
  -- each passes
  pub all-at : (xs : List A) → ((i : ℕ) → i < length xs → p (get_or xs i d) ≡ true) → all p xs ≡ true
  unfolding all
  all-at [] h = refl
  all-at (x ∷ xs) h = rw (h 0 (omega arith), all-at xs (λ i l. h (suc i) (omega arith)))

  -- and so it is read off
  pub at_all : (xs : List A) → all p xs ≡ true → (i : ℕ) → i < length xs → p (get_or xs i d) ≡ true
  unfolding all
  at_all [] h = λ i l. absurd (omega arith)
  at_all (x ∷ xs) h = by (p x) refl h (at_all xs)
    where
      by : (t : Bool) → p x ≡ t → (t && all p xs) ≡ true → (all p xs ≡ true → (i : ℕ) → i < length xs → p (get_or xs i d) ≡ true)
          → (i : ℕ) → i < suc (length xs) → p (get_or (x ∷ xs) i d) ≡ true
      by true e h rest zero l = e
      by true e h rest (suc i) l = rest h i (omega arith)
      by false e h rest i l = absurd (false≢true h)

-- ---- the list of desks

module _ (b desks : List ℕ) (m : ℕ) (e : m ≡ count b 2) where
  -- "a list of the wrong length"
  pub wrong_length : (length desks ≡ m → ⊥) → eqb (length desks) m ≡ list_right b desks
  unfolding list_right
  wrong_length h = rw (ne_eqb (length desks) m h, ne_eqb (length desks) (count b 2) (λ q. h (q ∙ sym e)))

  -- of the right length, and t says whether each word is 0 or 1
  pub right_length : (t : Bool) → length desks ≡ m → (t ≡ true) ↔ ((i : ℕ) → i < length desks → word desks i ≤ 1) → t ≡ list_right b desks
  unfolding list_right
  right_length t long low = rw (eq-eqb (length desks) (count b 2) (long ∙ e)) (same t low)
    where
      same : (t : Bool) → (t ≡ true) ↔ ((i : ℕ) → i < length desks → word desks i ≤ 1) → t ≡ all (λ w. leb w 1) desks
      same true h = sym (all-at (λ w. leb w 1) 0 desks (λ i l. le-leb (word desks i) 1 (h.0 refl i l)))
      same false h = by (all (λ w. leb w 1) desks) refl
        where
          by : (s : Bool) → all (λ w. leb w 1) desks ≡ s → false ≡ s
          by true q = h.1 (λ i l. leb-true (word desks i) 1 (at_all (λ w. leb w 1) 0 desks q i l))
          by false q = refl
