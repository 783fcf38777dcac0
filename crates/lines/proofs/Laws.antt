-- The decoded plan, token by token: how many tokens a line has, and what token j of a line and line v of a plan are. Assumes nothing.
use mathlib.Core.Path.{◌≡◌, refl, ap, ◌∙◌}
use mathlib.Core.List.{List, []}
use Prim.Native.Nat.{ℕ, zero, suc, ◌+◌, ◌*◌, ◌<◌}
use native.Mathlib.Nat.{add-zero, zero-add}
use native.Mathlib.Omega.{arith}
use lib.ListN.{length, get_or}
use Rattle.words.specs.Words.{word}
use Rattle.words.proofs.Runs.{run_at, length_run}
use Rattle.lines.specs.declared.Token.{Token}
use Rattle.lines.specs.Lines.{token, line_count, token_width, job_at, line_place, value_of, duration_of, job_of, start_of, tokens_from, line_of, lines_of}

-- the sum of the durations of j tokens from a place on
unfoldable pub durations : List ℕ → ℕ → ℕ → ℕ
durations p place zero = 0
durations p place (suc j) = word p (place + 1) + durations p (place + token_width p) j

-- n tokens are n
pub length_tokens : (p : List ℕ) (n place start : ℕ) → length (tokens_from p n place start) ≡ n
unfolding tokens_from
length_tokens p zero place start = refl
length_tokens p (suc n) place start = ap suc (length_tokens p n (place + token_width p) (start + word p (place + 1)))

-- token j has its own words, and starts at the sum of the durations before it
pub token-at : (p : List ℕ) (n place start j : ℕ) (d : Token) → j < n
    → get_or (tokens_from p n place start) j d
    ≡ token (word p (place + token_width p * j)) (start + durations p place j) (start + durations p place j + word p (place + token_width p * j + 1))
    (job_at p (place + token_width p * j))
unfolding tokens_from durations
token-at p zero place start j d l = absurd (omega arith)
token-at p (suc n) place start zero d l = rw (add-zero start) (let at : place + token_width p * 0 ≡ place = omega arith in rw at)
token-at p (suc n) place start (suc j) d l =
    let w = token_width p in
    let at : place + w + w * j ≡ place + w * suc j = omega arith in
    let sum : start + word p (place + 1) + durations p (place + w) j ≡ start + (word p (place + 1) + durations p (place + w) j) = omega arith in
    token-at p n (place + w) (start + word p (place + 1)) j d (omega arith) ∙ rw (at, sum)

-- one token more
durations_more : (p : List ℕ) (place j : ℕ) → durations p place (suc j) ≡ durations p place j + word p (place + token_width p * j + 1)
unfolding durations
durations_more p place zero = rw (add-zero (word p (place + 1)), zero-add) (let at : place + token_width p * 0 ≡ place = omega arith in rw at)
durations_more p place (suc j) =
    let w = token_width p in
    let at : place + w + w * j ≡ place + w * suc j = omega arith in
    let more : durations p (place + w) (suc j) ≡ durations p (place + w) j + word p (place + w + w * j + 1) = durations_more p (place + w) j in
    rw more (rw at (omega arith))

-- on a line, that is where token j starts
pub start_is : (p : List ℕ) (v j : ℕ) → durations p (line_place p v) j ≡ start_of p v j
unfolding durations start_of
start_is p v zero = refl
start_is p v (suc j) = durations_more p (line_place p v) j ∙ rw (start_is p v j)

-- line v has as many tokens as its count says
pub line-length : (p : List ℕ) (v : ℕ) → length (line_of p v) ≡ line_count p v
unfolding line_of
line-length p v = length_tokens p (line_count p v) (line_place p v) 0

-- token j of line v
pub line-token : (p : List ℕ) (v j : ℕ) (d : Token) → j < line_count p v
    → get_or (line_of p v) j d ≡ token (value_of p v j) (start_of p v j) (start_of p v j + duration_of p v j) (job_of p v j)
unfolding line_of
line-token p v j d l = token-at p (line_count p v) (line_place p v) 0 j d l ∙ rw (start_is p v j, zero-add (start_of p v j))

-- the plan has as many lines as word 2 says, and line v is decoded from its own words
pub lines-length : (p : List ℕ) → length (lines_of p) ≡ word p 2
unfolding lines_of
lines-length p = length_run (line_of p) 1 (word p 2) 0

pub lines-line : (p : List ℕ) (v : ℕ) → v < word p 2 → get_or (lines_of p) v [] ≡ line_of p v
unfolding lines_of
lines-line p v l = run_at (line_of p) 1 (word p 2) 0 v [] l ∙ ap (line_of p) (omega arith)
