-- What the theorems of proofs/FaultsOfTokens are said in. Assumes nothing.
use Rattle.std.specs.Prelude.{List, ℕ, ◌≤◌, ◌<◌, length}
use Rattle.clock.specs.Clock.{last_tick}
use Rattle.layout.specs.Layout.{count}
use Rattle.book.specs.Rules.{Variable}
use Rattle.lines.specs.declared.Token.{Token}
use Rattle.lines.specs.Lines.{line_count, line_of}
use Rattle.claims.specs.Papers.{Lasts, token_of, duration_of}
use Rattle.claims.specs.Timelines.{After, TokenKeeps, variable_of}

-- ---- what is claimed

-- "each token is tested 8, 9, 10, 11": what is wrong with token i of a timeline over the state variable x, by the number of the fault
pub data TokenWrong (x : Variable) (line : List Token) (i : ℕ) : ℕ → Type 0 where
  -- 8 "value unknown"
  unknown : length x.values ≤ (token_of line i).value → TokenWrong x line i 8
  -- 9 "duration outside least..greatest"
  outside : (token_of line i).value < length x.values → (Lasts x (token_of line i).value (duration_of (token_of line i)) → ⊥) → TokenWrong x line i 9
  -- 10 "not a successor of the token before"
  breaks : (token_of line i).value < length x.values → Lasts x (token_of line i).value (duration_of (token_of line i)) → (After x line i → ⊥)
      → TokenWrong x line i 10
  -- 11 "token ends after 1,000,000,000"
  late : (token_of line i).value < length x.values → Lasts x (token_of line i).value (duration_of (token_of line i)) → After x line i
      → last_tick < (token_of line i).end.tick → TokenWrong x line i 11

-- "Timelines go in order, tokens in order": there is a token j on timeline v, and all before it keep what their state variable asks
pub record FirstToken (b p : List ℕ) (v j : ℕ) : Type 0 where
  pub timeline : v < count b 0
  pub token : j < line_count p v
  pub timelines : (u : ℕ) → u < v → (i : ℕ) → i < line_count p u → TokenKeeps (variable_of b u) (line_of p u) i
  pub tokens : (i : ℕ) → i < j → TokenKeeps (variable_of b v) (line_of p v) i
