-- What the theorems of proofs/Cases are said in. Assumes nothing.
use Rattle.std.specs.Prelude.{List, [], ◌∷◌, ℕ}
use Rattle.clock.specs.Clock.{no_limit}
use Rattle.earliest.specs.Times.{Times}

-- ---- "yes"

-- a job of 5 ticks at once, with the decoder's stretch around it, and then the day may end
abbrev pub times_e : Times
times_e = record { start = λ k. 0; end = λ k. 5; plan_end = 5 }

-- 02, L8: from time point 0 to the end of the plan at least 1, without tokens: the plan's end alone is shown
abbrev pub times_end : Times
times_end = record { start = λ k. 0; end = λ k. 1; plan_end = 1 }

-- 02, L7: without trigger, one name, and "job of 1 = job of 1": the atom counts as met
abbrev pub job_only : List ℕ
job_only =
    1 ∷ 35 ∷ 1 ∷ 14 ∷ 1 ∷ 16 ∷ 1 ∷ 19 ∷ 1 ∷ 23 ∷ 1 ∷ 27 ∷ 1 ∷ 29
    ∷ 0 ∷ 1
    ∷ 1 ∷ no_limit ∷ 1
    ∷ no_limit ∷ 0 ∷ 0 ∷ 1
    ∷ 0 ∷ 1 ∷ 0 ∷ 1
    ∷ 0 ∷ 0
    ∷ 4 ∷ 1 ∷ 4 ∷ 1 ∷ 0 ∷ 0 ∷ []

-- ---- "no"

-- no trigger, two names of one value: the second starts "at least 40 after" the first, and "at most 30 after"
abbrev pub hopeless : List ℕ
hopeless =
    1 ∷ 43 ∷ 1 ∷ 14 ∷ 1 ∷ 16 ∷ 1 ∷ 19 ∷ 1 ∷ 23 ∷ 2 ∷ 27 ∷ 2 ∷ 31
    ∷ 0 ∷ 1
    ∷ 1 ∷ no_limit ∷ 1
    ∷ no_limit ∷ 0 ∷ 0 ∷ 1
    ∷ 0 ∷ 2 ∷ 0 ∷ 2
    ∷ 0 ∷ 0 ∷ 0 ∷ 0
    ∷ 0 ∷ 1 ∷ 0 ∷ 2 ∷ 40 ∷ no_limit
    ∷ 0 ∷ 1 ∷ 0 ∷ 2 ∷ 0 ∷ 30 ∷ []
