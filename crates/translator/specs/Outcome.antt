-- The first table that is too long, and what `finish` asks of a sheet. Assumes nothing.
use Rattle.std.specs.Prelude.{◌≡◌, cond, ℕ, List, ltb, Option, Some, None}
use Rattle.book.specs.Fault.{book_fault}
use Rattle.book.specs.Sound.{Sound}

-- the first table that is too long, or 6 for the whole, or none
unfoldable pub long_table : ℕ → ℕ → ℕ → ℕ → Option ℕ
long_table n m k w = cond (ltb 1024 n) (Some 3) (cond (ltb 2048 m) (Some 4) (cond (ltb 2048 k) (Some 5) (cond (ltb 16384 w) (Some 6) None)))

-- the sheet is good: nothing of 1 to 4 is wrong
pub record Passed (s : List ℕ) : Type 0 where
  pub sound : Sound 2 s
  pub good : (book_fault 2 s).number ≡ 0
