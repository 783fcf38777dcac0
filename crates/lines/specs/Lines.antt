-- The decoded plan: its timelines as lists of tokens with value, start, end and job. Assumes nothing.
use Rattle.std.specs.Prelude.{cond, List, [], ◌∷◌, ℕ, zero, suc, ◌+◌, ◌*◌, eqb}
use Rattle.words.specs.Words.{word}
use Rattle.words.specs.Runs.{run}
use Rattle.clock.specs.Clock.{at}
use Rattle.lines.specs.declared.Token.{Token}

abbrev pub token : ℕ → ℕ → ℕ → ℕ → Token
token value start end job = record { value = value; start = at start; end = at end; job = job }

-- "for each timeline its first token and token count"
abbrev pub line_first : List ℕ → ℕ → ℕ
line_first p v = word p (3 + 2 * v)

abbrev pub line_count : List ℕ → ℕ → ℕ
line_count p v = word p (4 + 2 * v)

-- "Tokens get a third word .. and the plan's edition becomes 2": how many words a token has; "3 words a token in edition 2, else 2"
unfoldable pub token_width : List ℕ → ℕ
token_width p = cond (eqb (word p 0) 2) 3 2

-- the job of the token at a place: "edition 1 plans are read with job 0 throughout"
unfoldable pub job_at : List ℕ → ℕ → ℕ
job_at p place = cond (eqb (word p 0) 2) (word p (place + 2)) 0

-- where the tokens of line v stand: "then tokens", of so many words each
abbrev pub line_place : List ℕ → ℕ → ℕ
line_place p v = 3 + 2 * word p 2 + token_width p * line_first p v

-- value, duration and job of token j of line v, and where it starts
abbrev pub value_of : List ℕ → ℕ → ℕ → ℕ
value_of p v j = word p (line_place p v + token_width p * j)

abbrev pub duration_of : List ℕ → ℕ → ℕ → ℕ
duration_of p v j = word p (line_place p v + token_width p * j + 1)

abbrev pub job_of : List ℕ → ℕ → ℕ → ℕ
job_of p v j = job_at p (line_place p v + token_width p * j)

unfoldable pub start_of : List ℕ → ℕ → ℕ → ℕ
start_of p v zero = 0
start_of p v (suc j) = start_of p v j + duration_of p v j

-- n tokens from a place on, the first of which begins at `start`
-- "A token starts at the sum of the durations before it on its line and ends a duration later"
unfoldable pub tokens_from : List ℕ → ℕ → ℕ → ℕ → List Token
tokens_from p zero place start = []
tokens_from p (suc n) place start =
    token (word p place) start (start + word p (place + 1)) (job_at p place) ∷ tokens_from p n (place + token_width p) (start + word p (place + 1))

-- timeline v
unfoldable pub line_of : List ℕ → ℕ → List Token
line_of p v = tokens_from p (line_count p v) (line_place p v) 0

-- all timelines: "number of timelines" is word 2
unfoldable pub lines_of : List ℕ → List (List Token)
lines_of p = run (line_of p) 1 (word p 2) 0
