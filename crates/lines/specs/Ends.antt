-- When a line ends, when the plan ends, and answer 18: lines that don't end together. Assumes nothing.
use Rattle.std.specs.Prelude.{Bool, not, cond, List, [], ◌∷◌, ℕ, ltb, eqb}
use Rattle.answers.specs.declared.Numbers.{Numbers}
use Rattle.answers.specs.Numbers.{numbers, no_fault}
use Rattle.words.specs.Least.{least}
use Rattle.layout.specs.Layout.{count}
use Rattle.lines.specs.declared.Token.{Token}
use Rattle.lines.specs.Lines.{line_of}

-- the end of the last of these tokens, or `start` where there are none
unfoldable pub end_from : ℕ → List Token → ℕ
end_from start [] = start
end_from start (t ∷ ts) = end_from t.end.tick ts

-- when a line ends: "An empty one ends at 0"
abbrev pub line_end : List Token → ℕ
line_end line = end_from 0 line

-- when the plan ends, "that of timeline 0": once all end together, "the common end"
abbrev pub plan_end : (ℕ → List Token) → ℕ
plan_end lines = line_end (lines 0)

-- timeline v is one "whose end differs from that of timeline 0"
unfoldable pub ends_apart : List ℕ → ℕ → Bool
ends_apart p v = not (eqb (line_end (line_of p v)) (plan_end (line_of p)))

abbrev pub first_apart : List ℕ → List ℕ → ℕ
first_apart b p = least (count b 0) (ends_apart p)

-- 18 "with the first timeline whose end differs from that of timeline 0"
unfoldable pub ends_fault : List ℕ → List ℕ → Numbers
ends_fault b p = cond (ltb (first_apart b p) (count b 0)) (numbers 18 (first_apart b p) 0) no_fault
