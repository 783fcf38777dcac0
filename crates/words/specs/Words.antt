-- The word at a place of a lent run of words, and the bits of a word that is a set. Assumes nothing.
use Rattle.std.specs.Prelude.{ℕ, ◌/◌, ◌%◌, ◌^◌, Bool, List, eqb, get_or}

-- the word at place k, and 0 past the end: no definition depends on a bound that it doesn't test
abbrev pub word : List ℕ → ℕ → ℕ
word b k = get_or b k 0

-- bit k of the set s
unfoldable pub in_set : ℕ → ℕ → Bool
in_set s k = eqb (s / 2 ^ k % 2) 1
