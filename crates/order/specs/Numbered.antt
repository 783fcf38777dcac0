-- What the contract of the search among listed times cites. Assumes nothing.
use Rattle.std.specs.Prelude.{List, ℕ, ◌≤◌, ◌<◌}
use Rattle.words.specs.Words.{word}

-- r is the number of the first time from number k on that isn't before t, or of the last one
pub record FirstFrom (ts : List ℕ) (last k t r : ℕ) : Type 0 where
  pub from : k ≤ r
  pub within : r ≤ last
  pub before : (j : ℕ) → k ≤ j → j < r → word ts j < t
  pub here : r < last → t ≤ word ts r
