-- A step on one timeline of lent words, for any words and any position at all. Assumes nothing.
use Rattle.std.specs.Prelude.{Bool, ◌&&◌, cond, List, ℕ, ◌+◌, ◌*◌, ltb, leb, length}
use Rattle.words.specs.Words.{word}
use Rattle.clock.specs.Clock.{at, last_tick}
use Rattle.lines.specs.declared.Position.{Position}
use Rattle.lines.specs.declared.Step.{Step}
use Rattle.lines.specs.declared.Step.TheVariants.{Handed, NoMore}
use Rattle.lines.specs.Lines.{token, line_count, token_width, job_at, line_place}

-- "with token number and running start"
abbrev pub position : ℕ → ℕ → ℕ → Position
position line number start = record { line = line; token = number; start = at start }

-- where the token that a position names stands: "a reader's step takes 3 words a token in edition 2, else 2"
abbrev pub token_place : List ℕ → Position → ℕ
token_place p q = line_place p q.line + token_width p * q.token

-- when it ends
abbrev pub token_end : List ℕ → Position → ℕ
token_end p q = q.start.tick + word p (token_place p q + 1)

-- the position's line is below the number of lines, it names a token of that line wholly inside the lent words, and that ends by the
-- last tick
unfoldable pub names : List ℕ → Position → Bool
names p q =
    ltb q.line (word p 2)
    && (ltb q.token (line_count p q.line) && (leb (token_place p q + token_width p) (length p) && leb (token_end p q) last_tick))

-- "a step says "no more" and gives the position back"; otherwise it hands out the token and the next position
unfoldable pub step_of : List ℕ → Position → Step
step_of p q =
    cond (names p q)
    (Handed (token (word p (token_place p q)) q.start.tick (token_end p q) (job_at p (token_place p q)))
    (position q.line (q.token + 1) (token_end p q)))
    (NoMore q)
