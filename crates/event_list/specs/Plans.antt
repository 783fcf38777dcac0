-- The lines of a plan's words, and the words of lines; the list of a plan. Assumes nothing.
use Rattle.std.specs.Prelude.{cond, ℕ, ◌+◌, eqb, length}
use mathlib.Core.List.{List, [], ◌∷◌, ◌++◌, flat_map}
use Rattle.words.specs.Words.{word}
use Rattle.words.specs.Runs.{run}
use Rattle.lines.specs.Lines.{line_count, line_place, token_width, job_at}
use Rattle.event_list.specs.Events.{PlanToken, Line, plan_token, events_of}
use Rattle.event_list.specs.Words.{list_words}

-- ---- the lines of a plan's words

-- the token at a place
abbrev pub token_at : List ℕ → ℕ → PlanToken
token_at p place = plan_token (word p place) (word p (place + 1)) (job_at p place)

-- timeline v
unfoldable pub line_tokens : List ℕ → ℕ → Line
line_tokens p v = run (token_at p) (token_width p) (line_count p v) (line_place p v)

-- all timelines
unfoldable pub plan_lines : List ℕ → List Line
plan_lines p = run (line_tokens p) 1 (word p 2) 0

-- ---- the words of lines

-- "tokens of 2 words, value and duration"; "Tokens get a third word, a job number", in edition 2
unfoldable pub token_words : ℕ → PlanToken → List ℕ
token_words edition t = t.value ∷ t.duration ∷ cond (eqb edition 2) (t.job ∷ []) []

unfoldable pub line_words : ℕ → Line → List ℕ
line_words edition l = flat_map (token_words edition) l

-- "for each timeline its first token and token count", `before` tokens being before the first of these lines
unfoldable pub head_words : ℕ → List Line → List ℕ
head_words before [] = []
head_words before (l ∷ ls) = before ∷ length l ∷ head_words (before + length l) ls

-- "edition, total words, number of timelines; then for each timeline its first token and token count; then tokens"
unfoldable pub plan_words : ℕ → List Line → List ℕ
plan_words edition ls =
    let rest = head_words 0 ls ++ flat_map (line_words edition) ls in
    edition ∷ (3 + length rest) ∷ length ls ∷ rest

-- ---- THE LIST of a plan: "an edition 1 plan still gives list edition 1", an edition 2 plan list edition 2

unfoldable pub list_of : List ℕ → List ℕ
list_of p = list_words (word p 0) (events_of (plan_lines p))
