-- What the theorems of proofs/Examples are said in. Assumes nothing.
use Rattle.std.specs.Prelude.{List, [], ◌∷◌, ℕ}
use Rattle.clock.specs.Clock.{no_limit}

-- edition 2: a token of 5 ticks with job N
abbrev pub plan_two : List ℕ
plan_two = 2 ∷ 8 ∷ 1 ∷ 0 ∷ 1 ∷ 0 ∷ 5 ∷ no_limit ∷ []
