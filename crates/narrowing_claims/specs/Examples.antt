-- What the theorems of proofs/Examples are said in. Assumes nothing.
use Rattle.std.specs.Prelude.{List, [], ◌∷◌, ℕ}
use Rattle.clock.specs.Clock.{no_limit}

-- ---- an alternative that nothing is left of

-- "trigger before 1 and 1 before trigger", over one variable with one value
abbrev pub both_before : List ℕ
both_before =
    2 ∷ 35 ∷ 1 ∷ 14 ∷ 1 ∷ 16 ∷ 1 ∷ 19 ∷ 1 ∷ 23 ∷ 1 ∷ 27 ∷ 2 ∷ 29
    ∷ 0 ∷ 1
    ∷ 1 ∷ no_limit ∷ 1
    ∷ 0 ∷ 0 ∷ 0 ∷ 1
    ∷ 0 ∷ 1 ∷ 0 ∷ 2
    ∷ 0 ∷ 0
    ∷ 0 ∷ 1 ∷ 1
    ∷ 1 ∷ 0 ∷ 1
    ∷ []
