-- What the theorems of proofs/Timelines are said in. Assumes nothing.
use Rattle.std.specs.Prelude.{◌≡◌, List, ℕ, zero, suc, ◌+◌, ◌≤◌, ◌<◌, length, get_or}
use Rattle.clock.specs.Clock.{last_tick}
use Rattle.book.specs.Rules.{Variable, variables_of}
use Rattle.lines.specs.declared.Token.{Token}
use Rattle.claims.specs.Papers.{Lasts, Follows, token_of, duration_of, no_variable}

-- ---- a timeline's starts

-- "the sum of the durations before it on its line"
unfoldable pub durations_before : List Token → ℕ → ℕ
durations_before line zero = 0
durations_before line (suc i) = durations_before line i + duration_of (token_of line i)

-- ---- what a token keeps

-- token i may follow the token before it; "Any value may stand first"
abbrev pub After : Variable → List Token → ℕ → Type 0
After x line i = (j : ℕ) → suc j ≡ i → Follows x (token_of line j).value (token_of line i).value

-- token i of a timeline over the state variable x "keeps its value, length and successor and ends by the last tick"
pub record TokenKeeps (x : Variable) (line : List Token) (i : ℕ) : Type 0 where
  pub value : (token_of line i).value < length x.values
  pub lasts : Lasts x (token_of line i).value (duration_of (token_of line i))
  pub follows : After x line i
  pub last : (token_of line i).end.tick ≤ last_tick

-- ---- the book's state variables

-- state variable v of the book
abbrev pub variable_of : List ℕ → ℕ → Variable
variable_of b v = get_or (variables_of b) v no_variable
