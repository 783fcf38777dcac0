-- What the theorems of proofs/Examples are said in. Assumes nothing.
use Rattle.std.specs.Prelude.{List, [], ◌∷◌, ℕ}
use Rattle.clock.specs.Clock.{no_limit}

-- ---- "offsets aside"

-- desk 0 has given its rule, number 0, an alternative with a name more: the alternative, the name and the atoms of rule 1 all move
abbrev pub moved : List ℕ
moved =
    1 ∷ 66 ∷ 2 ∷ 14 ∷ 4 ∷ 18 ∷ 2 ∷ 30 ∷ 3 ∷ 38 ∷ 2 ∷ 50 ∷ 2 ∷ 54
    ∷ 0 ∷ 2 ∷ 2 ∷ 2
    ∷ 1 ∷ no_limit ∷ 2 ∷ 1 ∷ no_limit ∷ 1 ∷ 1 ∷ no_limit ∷ 2 ∷ 5 ∷ 60 ∷ 3
    ∷ no_limit ∷ 0 ∷ 0 ∷ 2 ∷ 1 ∷ 1 ∷ 2 ∷ 1
    ∷ 0 ∷ 1 ∷ 0 ∷ 0 ∷ 1 ∷ 0 ∷ 0 ∷ 0 ∷ 1 ∷ 1 ∷ 0 ∷ 2
    ∷ 0 ∷ 1 ∷ 0 ∷ 1
    ∷ 0 ∷ 1 ∷ 0 ∷ 0 ∷ 0 ∷ no_limit ∷ 1 ∷ 0 ∷ 1 ∷ 1 ∷ 0 ∷ no_limit ∷ []

-- rule 0 is desk 0's, rule 1 desk 1's
abbrev pub shared : List ℕ
shared = 0 ∷ 1 ∷ []
