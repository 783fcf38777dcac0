-- A record's first word; how many words there are, and what one more store makes of them. Assumes nothing.
use mathlib.Core.Path.{◌≡◌, refl, sym, ap, ◌∙◌}
use mathlib.Core.List.{List, ◌++◌}
use Prim.Native.Nat.{ℕ, zero, suc, ◌+◌, ◌/◌, ◌<◌}
use native.Mathlib.Nat.{add-zero}
use native.Mathlib.Numerals.{add-one}
use lib.ListN.{length, drop, set, length-append}
use lib.Seq.{drop-cons, set_at, append_snoc}
use Rattle.words.specs.Words.{word}
use Rattle.words.specs.Bytes.{byte_word, words_to, words_of}

-- word 0 of a record stands at the record's place
pub first_word : (b : List ℕ) (k : ℕ) → word b (k + 0) ≡ word b k
first_word b k = ap (word b) (add-zero k)

-- the first n words are n
pub length_words_to : (s : List ℕ) (n : ℕ) → length (words_to s n) ≡ n
length_words_to s zero = refl
length_words_to s (suc n) = simp (length-append, length_words_to s n) (add-one n)

-- there is a word for each four bytes
pub length_words_of : (s : List ℕ) → length (words_of s) ≡ length s / 4
length_words_of s = length_words_to s (length s / 4)

-- word i stored behind the first i words
pub store : (s out : List ℕ) (i : ℕ) → i < length out → set (words_to s i ++ drop i out) i (byte_word s i) ≡ words_to s (i + 1) ++ drop (i + 1) out
store s out i h =
    rw (add-one i, drop-cons out i 0) (set_at (words_to s i) _ _ (byte_word s i) i (length_words_to s i) ∙ sym (append_snoc (words_to s i) (byte_word s i) _))
