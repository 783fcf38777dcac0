-- What the theorems of proofs/Specimens are said in. Assumes nothing.
use Rattle.std.specs.Prelude.{Bool, true, false, not, cond, List, [], ◌∷◌, ℕ, take, set}
use Rattle.answers.specs.declared.Numbers.{Numbers}
use Rattle.answers.specs.Numbers.{numbers_at, numbers}
use Rattle.clock.specs.Clock.{last_tick, no_limit}
use Rattle.book.proofs.Specimen.{book_e, same}
use Rattle.claims.specs.Specimens.{plan_p1, plan_p2, empty_plan}
use Rattle.order.specs.Profile.{order_only}
use Rattle.order.specs.Judged.{judged_by_order}

-- a rule without trigger and one name, with this atom
abbrev atom_book : List ℕ → List ℕ
atom_book atom =
    1 ∷ 35 ∷ 1 ∷ 14 ∷ 1 ∷ 16 ∷ 1 ∷ 19 ∷ 1 ∷ 23 ∷ 1 ∷ 27 ∷ 1 ∷ 29 ∷ 0 ∷ 1 ∷ 1 ∷ no_limit ∷ 1 ∷ no_limit ∷ 0 ∷ 0 ∷ 1 ∷ 0 ∷ 1 ∷ 0 ∷ 1 ∷ 0 ∷ 0 ∷ atom

-- a rule without trigger and two names of one value, job of 1 = job of 2, and 1 starts before 2
abbrev job_book : List ℕ
job_book =
    1 ∷ 43 ∷ 1 ∷ 14 ∷ 1 ∷ 16 ∷ 1 ∷ 19 ∷ 1 ∷ 23 ∷ 2 ∷ 27 ∷ 2 ∷ 31 ∷ 0 ∷ 1 ∷ 1 ∷ no_limit ∷ 1 ∷ no_limit ∷ 0 ∷ 0 ∷ 1 ∷ 0 ∷ 2 ∷ 0 ∷ 2
    ∷ 0 ∷ 0 ∷ 0 ∷ 0 ∷ 4 ∷ 1 ∷ 4 ∷ 2 ∷ 0 ∷ 0 ∷ 0 ∷ 1 ∷ 0 ∷ 2 ∷ 1 ∷ no_limit ∷ []

-- what is said of an input
pub data Specimen : Type 0 where
  inside : List ℕ → Bool → Specimen
  by_ranks : List ℕ → List ℕ → Numbers → Specimen

abbrev pub stands : Specimen → Bool
stands (inside b yes?) = cond yes? (order_only b) (not (order_only b))
stands (by_ranks b p n) = same (judged_by_order b p) n

abbrev pub specimens : List Specimen
specimens =
    inside book_e true
    -- (0, N), (1, N), (0, 0) are inside; "An upper of LAST is outside", and so are other bounds and a time point
    ∷ inside (atom_book (0 ∷ 1 ∷ 1 ∷ 1 ∷ 0 ∷ no_limit ∷ [])) true
    ∷ inside (atom_book (0 ∷ 1 ∷ 1 ∷ 1 ∷ 1 ∷ no_limit ∷ [])) true
    ∷ inside (atom_book (0 ∷ 1 ∷ 1 ∷ 1 ∷ 0 ∷ 0 ∷ [])) true
    -- "Job atoms may stand in L2's profile"
    ∷ inside (atom_book (4 ∷ 1 ∷ 4 ∷ 1 ∷ 0 ∷ 0 ∷ [])) true
    ∷ inside (atom_book (0 ∷ 1 ∷ 1 ∷ 1 ∷ 0 ∷ last_tick ∷ [])) false
    ∷ inside (atom_book (0 ∷ 1 ∷ 1 ∷ 1 ∷ 2 ∷ no_limit ∷ [])) false
    ∷ inside (atom_book (0 ∷ 1 ∷ 1 ∷ 1 ∷ 1 ∷ 1 ∷ [])) false
    ∷ inside (atom_book (2 ∷ 5 ∷ 1 ∷ 1 ∷ 0 ∷ no_limit ∷ [])) false
    ∷ inside (atom_book (0 ∷ 1 ∷ 2 ∷ 5 ∷ 0 ∷ no_limit ∷ [])) false
    -- "Books with kind 3 are outside L2's profile"
    ∷ inside (atom_book (0 ∷ 1 ∷ 3 ∷ 0 ∷ 0 ∷ no_limit ∷ [])) false
    -- no sound book is no
    ∷ inside (take 28 (atom_book [])) false
    -- 26 "after 4", before the plan is looked at; a book's own fault before it
    ∷ by_ranks (atom_book (0 ∷ 1 ∷ 1 ∷ 1 ∷ 0 ∷ last_tick ∷ [])) [] (numbers 26 0 0)
    ∷ by_ranks (atom_book (0 ∷ 1 ∷ 2 ∷ 5 ∷ 0 ∷ no_limit ∷ [])) [] (numbers 26 0 0)
    ∷ by_ranks (atom_book (0 ∷ 1 ∷ 3 ∷ 0 ∷ 0 ∷ no_limit ∷ [])) [] (numbers 26 0 0)
    ∷ by_ranks (atom_book (0 ∷ 2 ∷ 2 ∷ 5 ∷ 0 ∷ no_limit ∷ [])) [] (numbers_at 4 5 0 1)
    -- the main judge's own: 5, 18, 12 and 0
    ∷ by_ranks book_e [] (numbers 5 0 0)
    ∷ by_ranks book_e (set plan_p2 14 5) (numbers 18 1 0)
    ∷ by_ranks book_e plan_p1 (numbers 12 0 3)
    ∷ by_ranks book_e plan_p2 (numbers 0 2 0)
    ∷ by_ranks book_e empty_plan (numbers 0 0 0)
    -- by jobs too: two tokens of one job, the first of which starts before the second
    ∷ by_ranks job_book (2 ∷ 11 ∷ 1 ∷ 0 ∷ 2 ∷ 0 ∷ 5 ∷ 0 ∷ 0 ∷ 5 ∷ no_limit ∷ []) (numbers 12 0 0)
    ∷ by_ranks job_book (2 ∷ 11 ∷ 1 ∷ 0 ∷ 2 ∷ 0 ∷ 5 ∷ no_limit ∷ 0 ∷ 5 ∷ no_limit ∷ []) (numbers 0 1 0)
    ∷ by_ranks job_book (1 ∷ 9 ∷ 1 ∷ 0 ∷ 2 ∷ 0 ∷ 5 ∷ 0 ∷ 5 ∷ []) (numbers 0 1 0)
    ∷ []
