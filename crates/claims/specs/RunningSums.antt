-- What the theorems of proofs/RunningSums are said in. Assumes nothing.
use Rattle.std.specs.Prelude.{◌≡◌, List, ℕ, zero, suc, ◌+◌, ◌<◌}
use Rattle.lines.specs.Lines.{line_first, line_count}

-- how many tokens the lines before line v have, together
unfoldable pub tokens_before : List ℕ → ℕ → ℕ
tokens_before p zero = 0
tokens_before p (suc v) = tokens_before p v + line_count p v

module _ (p : List ℕ) (n : ℕ) where
  abbrev pub RunningSums : Type 0
  RunningSums = (v : ℕ) → v < n → line_first p v ≡ tokens_before p v
