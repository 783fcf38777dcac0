-- What the theorems of proofs/EasingExamples are said in. Assumes nothing.
use Rattle.std.specs.Prelude.{List, [], ◌∷◌, ℕ}
use Rattle.clock.specs.Clock.{no_limit}

-- ---- an alternative is added

-- `two_rules` with one more alternative at the end of rule 1, which asks nothing
abbrev pub loosened : List ℕ
loosened =
    1 ∷ 64 ∷ 2 ∷ 14 ∷ 4 ∷ 18 ∷ 2 ∷ 30 ∷ 3 ∷ 38 ∷ 1 ∷ 50 ∷ 2 ∷ 52
    ∷ 0 ∷ 2 ∷ 2 ∷ 2
    ∷ 1 ∷ no_limit ∷ 2 ∷ 1 ∷ no_limit ∷ 1 ∷ 1 ∷ no_limit ∷ 2 ∷ 5 ∷ 60 ∷ 3
    ∷ no_limit ∷ 0 ∷ 0 ∷ 1 ∷ 1 ∷ 1 ∷ 1 ∷ 2
    ∷ 0 ∷ 0 ∷ 0 ∷ 0 ∷ 0 ∷ 1 ∷ 0 ∷ 2 ∷ 1 ∷ 0 ∷ 2 ∷ 0
    ∷ 0 ∷ 1
    ∷ 0 ∷ 1 ∷ 0 ∷ 0 ∷ 0 ∷ no_limit ∷ 1 ∷ 0 ∷ 1 ∷ 1 ∷ 0 ∷ no_limit ∷ []

-- ---- both at once, and the other way round

-- E with the alternative that asks nothing at the end of its rule
abbrev pub short_and_loose : List ℕ
short_and_loose =
    1 ∷ 56 ∷ 2 ∷ 14 ∷ 4 ∷ 18 ∷ 1 ∷ 30 ∷ 2 ∷ 34 ∷ 1 ∷ 42 ∷ 2 ∷ 44
    ∷ 0 ∷ 2 ∷ 2 ∷ 2
    ∷ 1 ∷ no_limit ∷ 2 ∷ 1 ∷ no_limit ∷ 1 ∷ 1 ∷ no_limit ∷ 2 ∷ 5 ∷ 60 ∷ 3
    ∷ 1 ∷ 1 ∷ 0 ∷ 2
    ∷ 0 ∷ 1 ∷ 0 ∷ 2 ∷ 1 ∷ 0 ∷ 2 ∷ 0
    ∷ 0 ∷ 1
    ∷ 0 ∷ 1 ∷ 0 ∷ 0 ∷ 0 ∷ no_limit ∷ 1 ∷ 0 ∷ 1 ∷ 1 ∷ 0 ∷ no_limit ∷ []
