-- The plan by ranks: the same values, and durations that are differences of ranks. Assumes nothing.
use Rattle.std.specs.Prelude.{List, [], ◌∷◌, ℕ, zero, suc, ◌+◌, ◌-◌, set}
use Rattle.words.specs.Words.{word}
use Rattle.lines.specs.declared.Token.{Token}
use Rattle.lines.specs.Lines.{token_width, line_place, line_of, lines_of}
use Rattle.sweep.specs.Ranks.{rank}

-- the words r with new durations of tokens that stand one behind another from a place on, w words each: from the rank f of the start to that of
-- the end
unfoldable pub rank_tokens : (ℕ → ℕ) → ℕ → List ℕ → ℕ → List Token → List ℕ
rank_tokens f w r place [] = r
rank_tokens f w r place (t ∷ ts) = rank_tokens f w (set r (place + 1) (f t.end.tick - f t.start.tick)) (place + w) ts

-- the plan with new durations on line v, and on the first n lines
unfoldable pub rank_line : List ℕ → List ℕ → ℕ → List ℕ
rank_line p r v = rank_tokens (rank (lines_of p)) (token_width p) r (line_place p v) (line_of p v)

unfoldable pub rank_lines : List ℕ → ℕ → List ℕ
rank_lines p zero = p
rank_lines p (suc v) = rank_line p (rank_lines p v) v

-- "replaces start and end times by their ranks"
unfoldable pub ranked_plan : List ℕ → List ℕ
ranked_plan p = rank_lines p (word p 2)
