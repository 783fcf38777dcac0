-- A file's bytes as little-endian words of 32 bits. Assumes nothing.
use Rattle.std.specs.Prelude.{ℕ, zero, suc, ◌+◌, ◌*◌, ◌/◌, ◌%◌, ◌≤◌, ◌≡◌, ◌&&◌, cond, List, [], ◌∷◌, ◌++◌, length, get_or, take, drop, leb, eqb}

-- four bytes, least first, as a number
abbrev pub four_bytes : ℕ → ℕ → ℕ → ℕ → ℕ
four_bytes a b c d = a + b * 256 + c * 65536 + d * 16777216

-- word i of a run of bytes
abbrev pub byte_word : List ℕ → ℕ → ℕ
byte_word s i = four_bytes (get_or s (i * 4) 0) (get_or s (i * 4 + 1) 0) (get_or s (i * 4 + 2) 0) (get_or s (i * 4 + 3) 0)

-- its first n words
abbrev pub words_to : List ℕ → ℕ → List ℕ
words_to s zero = []
words_to s (suc n) = words_to s n ++ (byte_word s n ∷ [])

-- all its words
abbrev pub words_of : List ℕ → List ℕ
words_of s = words_to s (length s / 4)

-- the words of a file: none where it is over 65,536 bytes or no multiple of 4 long
abbrev pub file_words : List ℕ → List ℕ
file_words s = cond (leb (length s) 65536 && eqb (length s % 4) 0) (words_of s) []

-- a word's four bytes, least first, and the bytes of a run of words
abbrev pub bytes_of_word : ℕ → List ℕ
bytes_of_word w = w % 256 ∷ w / 256 % 256 ∷ w / 65536 % 256 ∷ w / 16777216 % 256 ∷ []

unfoldable pub bytes_of : List ℕ → List ℕ
bytes_of [] = []
bytes_of (w ∷ ws) = bytes_of_word w ++ bytes_of ws

-- what `load` answers: n words are there, they are the file's, and behind them `out` is as it was, all of it where the file has no words.
-- `counted` follows from `within`; both are what `&out[..n]` asks
pub record Loaded (s : List ℕ) (n : ℕ) (before out : List ℕ) : Type 0 where
  pub within : n ≤ length out
  pub counted : n ≡ length (take n out)
  pub are : take n out ≡ file_words s
  pub whole : out ≡ file_words s ++ drop n before
