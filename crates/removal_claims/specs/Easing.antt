-- What the theorems of proofs/Easing are said in. Assumes nothing.
use Rattle.std.specs.Prelude.{Bool, not, List, ℕ, eqb}
use Rattle.words.specs.Lists.{any}

-- the numbers that aren't listed
abbrev pub unlisted : List ℕ → ℕ → Bool
unlisted list k = not (any (eqb k) list)
