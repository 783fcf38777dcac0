-- Sets of small numbers, as the bits of a word: unions of them. Assumes nothing.
use Rattle.std.specs.Prelude.{Bool, cond, List, [], ◌∷◌, ℕ, zero, suc}
use Rattle.std.specs.Int.Bits.{bit_or}
use Rattle.words.specs.Words.{in_set}

-- the numbers below n, the greatest first
unfoldable pub down : ℕ → List ℕ
down zero = []
down (suc n) = n ∷ down n

-- the union of a set for each number of a list
unfoldable pub unions : (ℕ → ℕ) → List ℕ → ℕ
unions f [] = 0
unions f (x ∷ xs) = bit_or (f x) (unions f xs)

-- a set, or nothing where the test fails
abbrev pub given : Bool → ℕ → ℕ
given test s = cond test s 0

-- the union of a set for each number below n that is in s
unfoldable pub chosen : ℕ → (ℕ → ℕ) → ℕ → ℕ
chosen s f n = unions (λ i. given (in_set s i) (f i)) (down n)
