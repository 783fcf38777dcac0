-- Book E of document 01 and its rule as a sheet are good, and damaged copies get the answer that the fault table states: antt computes
-- them. Assumes nothing.
use mathlib.Core.Path.{◌≡◌, refl}
use mathlib.Core.Bool.{Bool, true, ◌&&◌}
use mathlib.Core.List.{List, [], ◌∷◌, ◌++◌}
use Prim.Native.Nat.{ℕ}
use lib.Dec.{eqb}
use lib.ListN.{take, drop, set, replicate}
use Rattle.answers.specs.declared.Numbers.{Numbers}
use Rattle.answers.specs.Numbers.{numbers_at, numbers, no_fault, or_else}
use Rattle.words.specs.Lists.{all}
use Rattle.clock.specs.Clock.{no_limit}
use Rattle.words.specs.Write.{puts}
use Rattle.words.specs.Least.{least, first}
use Rattle.layout.specs.Layout.{fifth_width, fifth_most, begins, header_wrong, starts, owner}
use Rattle.records.specs.Wrong.{set_wrong, value_tests, fifth_tests_of, fifth_tests, wrong_word, record_wrong}
use Rattle.book.specs.Fault.{leaves, table_wrong, told_word, length_fault, header_fault, end_fault, record_fault, book_fault}

-- "Book E, 52 words"
abbrev pub book_e : List ℕ
book_e =
    1 ∷ 52 ∷ 2 ∷ 14 ∷ 4 ∷ 18 ∷ 1 ∷ 30 ∷ 1 ∷ 34 ∷ 1 ∷ 38 ∷ 2 ∷ 40
    ∷ 0 ∷ 2 ∷ 2 ∷ 2
    ∷ 1 ∷ no_limit ∷ 2 ∷ 1 ∷ no_limit ∷ 1 ∷ 1 ∷ no_limit ∷ 2 ∷ 5 ∷ 60 ∷ 3
    ∷ 1 ∷ 1 ∷ 0 ∷ 1
    ∷ 0 ∷ 1 ∷ 0 ∷ 2
    ∷ 0 ∷ 1
    ∷ 0 ∷ 1 ∷ 0 ∷ 0 ∷ 0 ∷ no_limit ∷ 1 ∷ 0 ∷ 1 ∷ 1 ∷ 0 ∷ no_limit ∷ []

-- it is good
pub E-good : book_fault 1 book_e ≡ no_fault
unfolding or_else least first fifth_width fifth_most begins header_wrong starts owner set_wrong value_tests fifth_tests_of fifth_tests wrong_word record_wrong leaves table_wrong told_word length_fault header_fault end_fault record_fault book_fault
E-good = refl

-- "E's rule as a sheet (trigger, name 1, set 864), 43 words"
abbrev pub sheet_e : List ℕ
sheet_e =
    2 ∷ 43 ∷ 2 ∷ 14 ∷ 4 ∷ 18 ∷ 1 ∷ 30 ∷ 1 ∷ 34 ∷ 1 ∷ 38 ∷ 1 ∷ 40
    ∷ 0 ∷ 2 ∷ 2 ∷ 2
    ∷ 1 ∷ no_limit ∷ 2 ∷ 1 ∷ no_limit ∷ 1 ∷ 1 ∷ no_limit ∷ 2 ∷ 5 ∷ 60 ∷ 3
    ∷ 1 ∷ 1 ∷ 0 ∷ 1
    ∷ 0 ∷ 1 ∷ 0 ∷ 1
    ∷ 0 ∷ 1
    ∷ 0 ∷ 1 ∷ 864 ∷ []

-- E with one more alternative, that no rule has
abbrev more_e : List ℕ
more_e = set (puts (take 38 book_e ++ (1 ∷ 0 ∷ 2 ∷ 0 ∷ []) ++ drop 38 book_e) 8 (2 ∷ 34 ∷ 1 ∷ 42 ∷ 2 ∷ 44 ∷ [])) 1 56

-- E with a rule that has no trigger
abbrev free_e : List ℕ
free_e = puts book_e 30 (no_limit ∷ 0 ∷ [])

-- edition, words, and the numbers that the fault table states
abbrev pub specimens : List (ℕ × List ℕ × Numbers)
specimens =
    (1, book_e, no_fault)
    ∷ (2, sheet_e, no_fault)
    -- the length
    ∷ (1, [], numbers 1 0 0)
    ∷ (1, take 13 book_e, numbers 1 0 0)
    ∷ (1, book_e ++ replicate 16333 0, numbers 1 0 0)
    -- header words: edition, total against length, count limit, offset
    ∷ (2, book_e, numbers 2 0 0)
    ∷ (1, take 51 book_e, numbers 2 1 0)
    ∷ (1, book_e ++ (0 ∷ []), numbers 2 1 0)
    ∷ (1, set book_e 2 0, numbers 2 2 0)
    ∷ (1, set book_e 2 17, numbers 2 2 0)
    ∷ (1, set book_e 3 15, numbers 2 3 0)
    ∷ (1, set book_e 6 65, numbers 2 6 0)
    ∷ (1, set book_e 13 41, numbers 2 13 0)
    -- the end
    ∷ (1, set (book_e ++ (0 ∷ [])) 1 53, numbers 3 0 0)
    ∷ (1, set book_e 12 1, numbers 3 0 0)
    -- variables: a range that starts elsewhere, is empty, runs past the count, doesn't use up the values
    ∷ (1, set book_e 16 1, numbers_at 4 0 1 0)
    ∷ (1, set book_e 15 0, numbers_at 4 0 0 1)
    ∷ (1, set book_e 17 3, numbers_at 4 0 1 1)
    ∷ (1, set book_e 17 1, numbers_at 4 0 2 0)
    -- values: least, greatest, successors
    ∷ (1, set book_e 18 0, numbers_at 4 1 0 0)
    ∷ (1, set book_e 28 4, numbers_at 4 1 3 1)
    ∷ (1, set book_e 28 1000000001, numbers_at 4 1 3 1)
    ∷ (1, set book_e 23 4, numbers_at 4 1 1 2)
    -- rules: trigger variable, trigger value, alternatives
    ∷ (1, set book_e 30 2, numbers_at 4 2 0 0)
    ∷ (1, set book_e 31 2, numbers_at 4 2 0 1)
    ∷ (1, set book_e 30 no_limit, numbers_at 4 2 0 1)
    ∷ (1, set book_e 33 0, numbers_at 4 2 0 3)
    ∷ (1, more_e, numbers_at 4 2 1 0)
    -- alternatives: names and atoms, and both used up
    ∷ (1, set book_e 35 5, numbers_at 4 3 0 1)
    ∷ (1, set book_e 36 1, numbers_at 4 3 0 2)
    ∷ (1, set book_e 37 3, numbers_at 4 3 0 3)
    ∷ (1, set book_e 35 0, numbers_at 4 3 1 0)
    ∷ (1, set book_e 37 1, numbers_at 4 3 1 0)
    -- names
    ∷ (1, set book_e 38 2, numbers_at 4 4 0 0)
    ∷ (1, set book_e 39 2, numbers_at 4 4 0 1)
    -- atoms: kind, argument, trigger, bounds
    ∷ (1, set book_e 40 5, numbers_at 4 5 0 0)
    ∷ (1, set book_e 47 2, numbers_at 4 5 1 1)
    ∷ (1, free_e, numbers_at 4 5 0 3)
    ∷ (1, set book_e 46 2, no_fault)
    ∷ (1, puts book_e 46 (2 ∷ 1000000001 ∷ []), numbers_at 4 5 1 1)
    ∷ (1, set book_e 50 1000000001, numbers_at 4 5 1 4)
    ∷ (1, puts book_e 50 (5 ∷ 4 ∷ []), numbers_at 4 5 1 5)
    -- "kind 3, end of the plan, argument 0", on either side or on both; "another argument gets 4"
    ∷ (1, puts book_e 40 (3 ∷ 0 ∷ 3 ∷ 0 ∷ []), no_fault)
    ∷ (1, puts book_e 40 (3 ∷ 1 ∷ []), numbers_at 4 5 0 1)
    ∷ (1, puts book_e 42 (3 ∷ 1 ∷ []), numbers_at 4 5 0 3)
    -- "kind 4, job of": on both sides with 0 and 0; on one side the right kind is wrong; the arguments; the bounds
    ∷ (1, puts book_e 40 (4 ∷ 1 ∷ 4 ∷ 0 ∷ 0 ∷ 0 ∷ []), no_fault)
    ∷ (1, puts book_e 40 (4 ∷ 1 ∷ 0 ∷ 0 ∷ 0 ∷ 0 ∷ []), numbers_at 4 5 0 2)
    ∷ (1, puts book_e 40 (0 ∷ 1 ∷ 4 ∷ 0 ∷ 0 ∷ 0 ∷ []), numbers_at 4 5 0 2)
    ∷ (1, puts book_e 40 (4 ∷ 2 ∷ 0 ∷ 0 ∷ 0 ∷ 0 ∷ []), numbers_at 4 5 0 1)
    ∷ (1, puts book_e 40 (4 ∷ 1 ∷ 4 ∷ 2 ∷ 0 ∷ 0 ∷ []), numbers_at 4 5 0 3)
    ∷ (1, puts book_e 40 (4 ∷ 1 ∷ 4 ∷ 0 ∷ 1 ∷ 1 ∷ []), numbers_at 4 5 0 4)
    ∷ (1, puts book_e 40 (4 ∷ 1 ∷ 4 ∷ 0 ∷ 0 ∷ no_limit ∷ []), numbers_at 4 5 0 5)
    ∷ (1, puts free_e 40 (4 ∷ 1 ∷ 4 ∷ 0 ∷ 0 ∷ 0 ∷ []), numbers_at 4 5 0 3)
    -- constraints: token, set
    ∷ (2, set sheet_e 41 2, numbers_at 4 5 0 1)
    ∷ (2, set sheet_e 42 0, numbers_at 4 5 0 2)
    ∷ (2, set sheet_e 42 8192, numbers_at 4 5 0 2)
    ∷ []

-- two answers are the same
abbrev pub same : Numbers → Numbers → Bool
same x y = eqb x.number y.number && eqb x.a y.a && eqb x.b y.b && eqb x.c y.c

-- the answer is as stated
abbrev pub answered : ℕ × List ℕ × Numbers → Bool
answered s = same (book_fault s.0 s.1) s.2

-- THE CLAIM: every specimen is answered so
pub all-answered : all answered specimens ≡ true
unfolding all or_else least first fifth_width fifth_most begins header_wrong starts owner set_wrong value_tests fifth_tests_of fifth_tests wrong_word record_wrong leaves table_wrong told_word length_fault header_fault end_fault record_fault book_fault
all-answered = refl
