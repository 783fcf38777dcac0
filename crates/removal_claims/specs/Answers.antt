-- What the theorems of proofs/Answers are said in. Assumes nothing.
use Rattle.std.specs.Prelude.{◌≡◌, List, ℕ, suc, ◌≤◌, ◌<◌, length}
use Rattle.words.specs.Words.{word}
use Rattle.layout.specs.Layout.{count}

-- ---- what is claimed

-- a list "strictly increasing", without "a number not in the book" of n rules
pub record Numbered (n : ℕ) (list : List ℕ) : Type 0 where
  pub increasing : (k : ℕ) → suc k < length list → word list k < word list (suc k)
  pub in_book : (k : ℕ) → k < length list → word list k < n

-- a list of desks that is not "of the wrong length", and without "a word over 1"
pub record DeskList (b d : List ℕ) : Type 0 where
  pub long : length d ≡ count b 2
  pub low : (k : ℕ) → k < length d → word d k ≤ 1
