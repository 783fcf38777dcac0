-- What a sweep asks of a plan, and what the list of all endpoints is. Assumes nothing.
use Rattle.std.specs.Prelude.{◌≡◌, true, List, ℕ, zero, suc, ◌+◌, ◌*◌, ◌≤◌, ◌<◌, length}
use Rattle.words.specs.Words.{word}
use Rattle.clock.specs.Clock.{last_tick}
use Rattle.lines.specs.Lines.{token_width, line_count, line_place, duration_of, start_of, lines_of}
use Rattle.sweep.specs.Ranks.{endpoint, rank}

-- the tokens of the first n lines
unfoldable pub tokens_on : List ℕ → ℕ → ℕ
tokens_on p zero = 0
tokens_on p (suc v) = tokens_on p v + line_count p v

-- a plan that passes 5 to 11 is so: few lines and tokens, each inside the words, and each token has a length and ends by the last tick
pub record Sweeps (p : List ℕ) : Type 0 where
  pub few : word p 2 ≤ 16
  pub short : length p ≤ 16384
  pub inside : (v : ℕ) → v < word p 2 → line_place p v + token_width p * line_count p v ≤ length p
  pub tokens : tokens_on p (word p 2) < 8192
  pub long : (v : ℕ) → v < word p 2 → (j : ℕ) → j < line_count p v → 0 < duration_of p v j
  pub soon : (v : ℕ) → v < word p 2 → (j : ℕ) → j < line_count p v → start_of p v (suc j) ≤ last_tick

-- the times ts are all endpoints in order, up to number e, at which or after which every token has ended
pub record Moments (p ts : List ℕ) (e : ℕ) : Type 0 where
  pub ranks : (k : ℕ) → k ≤ e → rank (lines_of p) (word ts k) ≡ k
  pub ends : (k : ℕ) → k < e → endpoint (lines_of p) (word ts k) ≡ true
  pub last : (v : ℕ) → v < word p 2 → (j : ℕ) → j < line_count p v → start_of p v (suc j) ≤ word ts e
