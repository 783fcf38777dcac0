-- What the theorems of proofs/Order are said in. Assumes nothing.
use Rattle.std.specs.Prelude.{◌≡◌, List, ℕ, ◌+◌, ◌*◌, ◌<◌, set}
use Rattle.narrowing.specs.Narrowed.{cut_word}
use Rattle.narrowing_claims.specs.Kept.{set_of}

-- ---- what is claimed

-- the table with the set of i and j cut by way of k
abbrev pub cut_once : ℕ → List ℕ → ℕ → ℕ → ℕ → List ℕ
cut_once n m i k j = set m (i * n + j) (cut_word m (i * n + j) (i * n + k) (k * n + j))

-- the tables that cutting comes to, in whatever order
pub data Cuts (n : ℕ) (start : List ℕ) : List ℕ → Type 0 where
  none : Cuts n start start
  more : (m : List ℕ) (i k j : ℕ) → i < n → k < n → j < n → Cuts n start m → Cuts n start (cut_once n m i k j)

-- a cut of any pair by way of any third changes nothing
abbrev pub Still : ℕ → List ℕ → Type 0
Still n m = (i k j : ℕ) → i < n → k < n → j < n → cut_word m (i * n + j) (i * n + k) (k * n + j) ≡ set_of n m i j
