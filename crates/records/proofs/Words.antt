-- A record has a test for each of its words; the first wrong word is the least index at which one holds, and the record is wrong just where
-- one does. Assumes nothing.
use mathlib.Core.Path.{◌≡◌, refl, ap, ◌∙◌}
use mathlib.Core.Bool.{Bool, true, false, cond}
use mathlib.Core.Logic.{◌↔◌}
use mathlib.Core.List.{List}
use Prim.Native.Nat.{ℕ, ◌≤◌, ◌<◌}
use native.Mathlib.Decide.{dec_le}
use native.Mathlib.Omega.{arith}
use lib.Dec.{eqb}
use lib.ListN.{length, get_or, get_or-eq_default}
use borrow.Author.Tests.{lt-ltb, le-ltb}
use Rattle.words.specs.Least.{least}
use Rattle.words.proofs.Least.{first-least, none_below}
use Rattle.layout.specs.Layout.{fifth_width, width}
use Rattle.layout.proofs.Bounds.{tables}
use Rattle.records.specs.Wrong.{value_tests, fifth_tests_of, fifth_tests, record_tests, wrong_word, record_wrong}

-- r is the first wrong word, and w the record's width, as a loop has them
pub word_bad : (e : ℕ) (b : List ℕ) (t i : ℕ) {r w : ℕ} → r ≡ wrong_word e b t i → w ≡ width e t → r < w → record_wrong e b t i ≡ true
unfolding record_wrong
word_bad e b t i h k l = lt-ltb (wrong_word e b t i) (width e t) (omega arith)

pub word_good : (e : ℕ) (b : List ℕ) (t i : ℕ) {r w : ℕ} → r ≡ wrong_word e b t i → w ≡ width e t → w ≤ r → record_wrong e b t i ≡ false
unfolding record_wrong
word_good e b t i h k l = le-ltb (wrong_word e b t i) (width e t) (omega arith)

-- the length of one of two lists
either : (t : Bool) (xs ys : List Bool) (n m : ℕ) → length xs ≡ n → length ys ≡ m → length (cond t xs ys) ≡ cond t n m
either true xs ys n m h k = h
either false xs ys n m h k = k

module _ (e : ℕ) (b : List ℕ) where
  as_many : (t : ℕ) → t < 6 → (i : ℕ) → length (record_tests e b t i) ≡ width e t
  unfolding value_tests fifth_tests fifth_tests_of fifth_width
  as_many =
      tables (λ t. (i : ℕ) → length (record_tests e b t i) ≡ width e t)
      (λ i. refl) (λ i. refl) (λ i. refl) (λ i. refl) (λ i. refl) (λ i. either (eqb e 2) _ _ 3 6 refl refl)

  module _ (t i : ℕ) (l : t < 6) where
    -- THE LAWS: which word is told,
    pub first_word : wrong_word e b t i ≡ least (width e t) (λ j. get_or (record_tests e b t i) j false)
    unfolding wrong_word
    first_word =
        first-least (λ w. w) false (record_tests e b t i)
        ∙ ap (λ (n : ℕ). least n (λ j. get_or (record_tests e b t i) j false)) (as_many t l i)

    -- and that a record is right where no word is wrong
    pub record_right : (record_wrong e b t i ≡ false) ↔ ((j : ℕ) → get_or (record_tests e b t i) j false ≡ false)
    unfolding record_wrong
    record_right =
        let n = none_below (width e t) (λ j. get_or (record_tests e b t i) j false) in (
          λ h j. elim (dec_le (width e t) j) [
            | no k ↦ n.0 (rw first_word at h) j (omega arith)
            | yes k ↦ get_or-eq_default (record_tests e b t i) false (omega (arith, as_many t l i))
          ],
          λ h. rw first_word (n.1 (λ j k. h j)),
        )
