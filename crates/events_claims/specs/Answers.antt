-- What the theorems of proofs/Answers are said in. Assumes nothing.
use Rattle.std.specs.Prelude.{List, ℕ, ◌≤◌, length}

-- ---- words into a room

-- the words ws fit a room
abbrev pub Fits : List ℕ → List ℕ → Type 0
Fits ws room = length ws ≤ length room
