-- What the theorems of proofs/SoundWords are said in. Assumes nothing.
use Rattle.std.specs.Prelude.{ℕ, ◌^◌, ◌<◌}

-- a number of 32 bits
abbrev pub Word : ℕ → Type 0
Word w = w < 2 ^ 32
