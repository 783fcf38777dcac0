-- What a good header of a plan is, in plain numbers. Assumes nothing.
use Rattle.std.specs.Prelude.{◌≡◌, ◌⊎◌, List, ℕ, ◌≤◌, ◌<◌, length}
use Rattle.words.specs.Words.{word}
use Rattle.layout.specs.Layout.{count}
use Rattle.lines.specs.Lines.{line_first, line_count}
use Rattle.lines.specs.Fault.{sum_before}

-- edition 1 or 2, "total words, number of timelines (that of the book's variables); then for each timeline its first token and token count
-- (0..512)"; "First tokens are running sums of the counts, from 0"
pub record HeadGood (b p : List ℕ) : Type 0 where
  pub edition : (word p 0 ≡ 1) ⊎ (word p 0 ≡ 2)
  pub total : word p 1 ≡ length p
  pub timelines : word p 2 ≡ count b 0
  pub follow : (v : ℕ) → v < count b 0 → line_first p v ≡ sum_before p v
  pub few : (v : ℕ) → v < count b 0 → line_count p v ≤ 512
