-- What the theorems of proofs/Editions are said in. Assumes nothing.
use Rattle.std.specs.Prelude.{List, ℕ, ◌+◌, ◌*◌, ◌≤◌, ◌<◌, length}
use Rattle.words.specs.Words.{word}
use Rattle.clock.specs.Clock.{last_tick}
use Rattle.lines.specs.declared.Token.{Token}
use Rattle.lines.specs.declared.Position.{Position}
use Rattle.lines.specs.declared.Step.{Step}
use Rattle.lines.specs.declared.Step.TheVariants.{Handed}
use Rattle.lines.specs.Lines.{token, line_first, line_count}
use Rattle.lines.specs.Walk.{position}

-- ---- what is claimed

-- where token j of line v stands, if a token has w words
abbrev pub place_by : ℕ → List ℕ → ℕ → ℕ → ℕ
place_by w p v j = 3 + 2 * word p 2 + w * line_first p v + w * j

-- the token at a place, with this start and this job
abbrev pub token_by : List ℕ → ℕ → ℕ → ℕ → Token
token_by p place start job = token (word p place) start (start + word p (place + 1)) job

-- a position names a token, "wholly inside the lent words", that ends by the last tick, if a token has w words
pub record Names (w : ℕ) (p : List ℕ) (q : Position) : Type 0 where
  pub line : q.line < word p 2
  pub token : q.token < line_count p q.line
  pub inside : place_by w p q.line q.token + w ≤ length p
  pub soon : q.start.tick + word p (place_by w p q.line q.token + 1) ≤ last_tick

-- what a step then hands out, with this job
abbrev pub handed_by : ℕ → List ℕ → Position → ℕ → Step
handed_by w p q job =
    let place : ℕ = place_by w p q.line q.token in
    let end : ℕ = q.start.tick + word p (place + 1) in
    Handed (token_by p place q.start.tick job) (position q.line (q.token + 1) end)
