-- What the theorems of proofs/Specimens are said in. Assumes nothing.
use Rattle.std.specs.Prelude.{Bool, true, false, not, cond, List, [], ◌∷◌, ℕ, eqb, take, set}
use Rattle.answers.specs.declared.Numbers.{Numbers}
use Rattle.answers.specs.Numbers.{numbers_at, numbers}
use Rattle.words.specs.Write.{puts}
use Rattle.clock.specs.Clock.{no_limit, in_bounds}
use Rattle.book.proofs.Specimen.{book_e, sheet_e, same}
use Rattle.allen.specs.Relation.{relation_of}
use Rattle.verdict.specs.Judged.{judged, judged_sheet}
use Rattle.translator.specs.Translation.{translation}

-- "P1"
abbrev pub plan_p1 : List ℕ
plan_p1 = 1 ∷ 21 ∷ 2 ∷ 0 ∷ 3 ∷ 3 ∷ 4 ∷ 0 ∷ 10 ∷ 1 ∷ 30 ∷ 0 ∷ 10 ∷ 0 ∷ 10 ∷ 1 ∷ 20 ∷ 0 ∷ 10 ∷ 1 ∷ 10 ∷ []

-- "P2"
abbrev pub plan_p2 : List ℕ
plan_p2 = 1 ∷ 19 ∷ 2 ∷ 0 ∷ 2 ∷ 2 ∷ 4 ∷ 0 ∷ 10 ∷ 1 ∷ 40 ∷ 0 ∷ 10 ∷ 1 ∷ 20 ∷ 0 ∷ 10 ∷ 1 ∷ 10 ∷ []

-- "Empty plan"
abbrev pub empty_plan : List ℕ
empty_plan = 1 ∷ 7 ∷ 2 ∷ 0 ∷ 0 ∷ 0 ∷ 0 ∷ []

-- "A rule without trigger, one alternative, no names, no atoms", over E's two variables
abbrev pub free_book : List ℕ
free_book =
    1 ∷ 38 ∷ 2 ∷ 14 ∷ 4 ∷ 18 ∷ 1 ∷ 30 ∷ 1 ∷ 34 ∷ 0 ∷ 38 ∷ 0 ∷ 38
    ∷ 0 ∷ 2 ∷ 2 ∷ 2
    ∷ 1 ∷ no_limit ∷ 2 ∷ 1 ∷ no_limit ∷ 1 ∷ 1 ∷ no_limit ∷ 2 ∷ 5 ∷ 60 ∷ 3
    ∷ no_limit ∷ 0 ∷ 0 ∷ 1
    ∷ 0 ∷ 0 ∷ 0 ∷ 0 ∷ []

-- "With one name": the decoder's UTF-8
abbrev pub free_named : List ℕ
free_named =
    1 ∷ 40 ∷ 2 ∷ 14 ∷ 4 ∷ 18 ∷ 1 ∷ 30 ∷ 1 ∷ 34 ∷ 1 ∷ 38 ∷ 0 ∷ 40
    ∷ 0 ∷ 2 ∷ 2 ∷ 2
    ∷ 1 ∷ no_limit ∷ 2 ∷ 1 ∷ no_limit ∷ 1 ∷ 1 ∷ no_limit ∷ 2 ∷ 5 ∷ 60 ∷ 3
    ∷ no_limit ∷ 0 ∷ 0 ∷ 1
    ∷ 0 ∷ 1 ∷ 0 ∷ 0
    ∷ 0 ∷ 1 ∷ []

-- 02, L8: a rule without trigger and names, from time point 0 to the end of the plan at least 1; over one variable with one value
abbrev pub end_book : List ℕ
end_book =
    1 ∷ 33 ∷ 1 ∷ 14 ∷ 1 ∷ 16 ∷ 1 ∷ 19 ∷ 1 ∷ 23 ∷ 0 ∷ 27 ∷ 1 ∷ 27
    ∷ 0 ∷ 1
    ∷ 1 ∷ no_limit ∷ 1
    ∷ no_limit ∷ 0 ∷ 0 ∷ 1
    ∷ 0 ∷ 0 ∷ 0 ∷ 1
    ∷ 2 ∷ 0 ∷ 3 ∷ 0 ∷ 1 ∷ no_limit ∷ []

-- "at least 20 before the end": E with one atom more, from the end of the RIP's job to the end of the plan
abbrev pub truck_book : List ℕ
truck_book =
    1 ∷ 58 ∷ 2 ∷ 14 ∷ 4 ∷ 18 ∷ 1 ∷ 30 ∷ 1 ∷ 34 ∷ 1 ∷ 38 ∷ 3 ∷ 40
    ∷ 0 ∷ 2 ∷ 2 ∷ 2
    ∷ 1 ∷ no_limit ∷ 2 ∷ 1 ∷ no_limit ∷ 1 ∷ 1 ∷ no_limit ∷ 2 ∷ 5 ∷ 60 ∷ 3
    ∷ 1 ∷ 1 ∷ 0 ∷ 1
    ∷ 0 ∷ 1 ∷ 0 ∷ 3
    ∷ 0 ∷ 1
    ∷ 0 ∷ 1 ∷ 0 ∷ 0 ∷ 0 ∷ no_limit ∷ 1 ∷ 0 ∷ 1 ∷ 1 ∷ 0 ∷ no_limit ∷ 1 ∷ 0 ∷ 3 ∷ 0 ∷ 20 ∷ no_limit ∷ []

-- 02, L7: a rule without trigger, two names of one value: "job of 1 = job of 2", and 1 starts before 2
abbrev pub job_book : List ℕ
job_book =
    1 ∷ 43 ∷ 1 ∷ 14 ∷ 1 ∷ 16 ∷ 1 ∷ 19 ∷ 1 ∷ 23 ∷ 2 ∷ 27 ∷ 2 ∷ 31
    ∷ 0 ∷ 1
    ∷ 1 ∷ no_limit ∷ 1
    ∷ no_limit ∷ 0 ∷ 0 ∷ 1
    ∷ 0 ∷ 2 ∷ 0 ∷ 2
    ∷ 0 ∷ 0 ∷ 0 ∷ 0
    ∷ 4 ∷ 1 ∷ 4 ∷ 2 ∷ 0 ∷ 0 ∷ 0 ∷ 1 ∷ 0 ∷ 2 ∷ 1 ∷ no_limit ∷ []

-- what document 01 says of an input
pub data Specimen : Type 0 where
  -- the judge's answer by a book, and by a sheet, to a plan
  by_book : List ℕ → List ℕ → Numbers → Specimen
  by_sheet : List ℕ → List ℕ → Numbers → Specimen
  -- the translator's answer to a sheet and so much room
  into : List ℕ → ℕ → Numbers → Specimen
  -- right minus left, by these two, within lower..upper or not
  bounds : ℕ → ℕ → ℕ → ℕ → Bool → Specimen
  -- the number of the relation of two stretches
  stretches : ℕ → ℕ → ℕ → ℕ → ℕ → Specimen

-- it is so
abbrev pub stands : Specimen → Bool
stands (by_book b p n) = same (judged b p) n
stands (by_sheet s p n) = same (judged_sheet s p) n
stands (into s room n) = same (translation s room) n
stands (bounds lower upper left right holds) = cond holds (in_bounds no_limit left right lower upper) (not (in_bounds no_limit left right lower upper))
stands (stretches s e s' e' k) = eqb (relation_of s e s' e') k

-- the table
abbrev pub specimens : List Specimen
specimens =
    -- 0 and 12: P1, P2, the empty plan
    by_book book_e plan_p1 (numbers 12 0 3)
    ∷ by_book book_e plan_p2 (numbers 0 2 0)
    ∷ by_book book_e empty_plan (numbers 0 0 0)
    -- 9: "P2 with the job of 20 at 4", "At 61"; "5 and 60 pass 9": the RIP's line then ends elsewhere (18)
    ∷ by_book book_e (set plan_p2 14 4) (numbers 9 1 1)
    ∷ by_book book_e (set plan_p2 14 61) (numbers 9 1 1)
    ∷ by_book book_e (set plan_p2 14 5) (numbers 18 1 0)
    ∷ by_book book_e (set plan_p2 14 60) (numbers 18 1 0)
    -- 10, 8, 11: "P2 with the second decoder token's value 0", "2", "duration 999,999,990 passes 11; 999,999,991"
    ∷ by_book book_e (set plan_p2 9 0) (numbers 10 0 1)
    ∷ by_book book_e (set plan_p2 9 2) (numbers 8 0 1)
    ∷ by_book book_e (set plan_p2 10 999999990) (numbers 18 1 0)
    ∷ by_book book_e (set plan_p2 10 999999991) (numbers 11 0 1)
    -- "A rule without trigger, one alternative, no names, no atoms: met on the empty plan, counts 1. With one name: 12"
    ∷ by_book free_book empty_plan (numbers 0 1 0)
    ∷ by_book free_named empty_plan (numbers 12 0 0)
    -- 1 to 4: no book, a header word, an end elsewhere, a bad record, values that no variable uses
    ∷ by_book [] plan_p2 (numbers 1 0 0)
    ∷ by_book (set book_e 13 41) plan_p2 (numbers 2 13 0)
    ∷ by_book (set book_e 12 1) plan_p2 (numbers 3 0 0)
    ∷ by_book (set book_e 30 2) plan_p2 (numbers 4 2 0)
    ∷ by_book (set book_e 17 1) plan_p2 (numbers 4 0 2)
    -- 5 to 7: no plan, a wrong word before the tokens, tokens that end elsewhere
    ∷ by_book book_e [] (numbers 5 0 0)
    ∷ by_book book_e (set plan_p2 6 513) (numbers 6 6 0)
    ∷ by_book book_e (set (take 17 plan_p2) 1 17) (numbers 7 0 0)
    -- "Bounds 10..20: differences 9 and 21 fail, 10 and 20 hold"; a right that comes first fails
    ∷ bounds 10 20 5 14 false
    ∷ bounds 10 20 5 26 false
    ∷ bounds 10 20 5 15 true
    ∷ bounds 10 20 5 25 true
    ∷ bounds 0 no_limit 7 3 false
    -- "0..10 and 10..20 meet and aren't "before"": 1, and not 0
    ∷ stretches 0 10 10 20 1
    -- "E's rule as a sheet (trigger, name 1, set 864), 43 words: 0 106 4. Room 105: 15 106 0"; and the direct judge
    ∷ into sheet_e 106 (numbers 0 106 4)
    ∷ into sheet_e 105 (numbers 15 106 0)
    ∷ by_sheet sheet_e plan_p1 (numbers 12 0 3)
    ∷ by_sheet sheet_e plan_p2 (numbers 0 2 0)
    ∷ by_sheet sheet_e (set plan_p2 14 4) (numbers 9 1 1)
    -- 4 with a word: E's last upper bound, and the sheet's set
    ∷ by_book (set book_e 51 4294967294) plan_p2 (numbers_at 4 5 1 5)
    ∷ by_sheet (set sheet_e 42 8192) plan_p2 (numbers_at 4 5 0 2)
    -- 02, L8: "The end of an empty plan is 0"; a token of 1; both sides the end of the plan; P2's second job ends with the plan
    ∷ by_book end_book (1 ∷ 5 ∷ 1 ∷ 0 ∷ 0 ∷ []) (numbers 12 0 0)
    ∷ by_book end_book (1 ∷ 7 ∷ 1 ∷ 0 ∷ 1 ∷ 0 ∷ 1 ∷ []) (numbers 0 1 0)
    ∷ by_book (puts end_book 27 (3 ∷ 0 ∷ 3 ∷ 0 ∷ 0 ∷ 0 ∷ [])) (1 ∷ 5 ∷ 1 ∷ 0 ∷ 0 ∷ []) (numbers 0 1 0)
    ∷ by_book (puts end_book 27 (3 ∷ 0 ∷ 3 ∷ 0 ∷ 1 ∷ no_limit ∷ [])) (1 ∷ 7 ∷ 1 ∷ 0 ∷ 1 ∷ 0 ∷ 1 ∷ []) (numbers 12 0 0)
    ∷ by_book truck_book plan_p2 (numbers 12 0 3)
    ∷ by_book (set truck_book 56 0) plan_p2 (numbers 0 2 0)
    -- 02, L7: jobs 0 and N, N and N; edition 1 is "read with job 0 throughout", edition 3 "is refused 6", and 7 goes by the width; of three
    -- tokens with the jobs 0, N, 0 only the first and the third go together
    ∷ by_book job_book (2 ∷ 11 ∷ 1 ∷ 0 ∷ 2 ∷ 0 ∷ 5 ∷ 0 ∷ 0 ∷ 5 ∷ no_limit ∷ []) (numbers 12 0 0)
    ∷ by_book job_book (2 ∷ 11 ∷ 1 ∷ 0 ∷ 2 ∷ 0 ∷ 5 ∷ no_limit ∷ 0 ∷ 5 ∷ no_limit ∷ []) (numbers 0 1 0)
    ∷ by_book job_book (1 ∷ 9 ∷ 1 ∷ 0 ∷ 2 ∷ 0 ∷ 5 ∷ 0 ∷ 5 ∷ []) (numbers 0 1 0)
    ∷ by_book job_book (3 ∷ 9 ∷ 1 ∷ 0 ∷ 2 ∷ 0 ∷ 5 ∷ 0 ∷ 5 ∷ []) (numbers 6 0 0)
    ∷ by_book job_book (2 ∷ 9 ∷ 1 ∷ 0 ∷ 2 ∷ 0 ∷ 5 ∷ 0 ∷ 5 ∷ []) (numbers 7 0 0)
    ∷ by_book job_book (1 ∷ 11 ∷ 1 ∷ 0 ∷ 2 ∷ 0 ∷ 5 ∷ 0 ∷ 0 ∷ 5 ∷ no_limit ∷ []) (numbers 7 0 0)
    ∷ by_book job_book (2 ∷ 14 ∷ 1 ∷ 0 ∷ 3 ∷ 0 ∷ 5 ∷ 0 ∷ 0 ∷ 5 ∷ no_limit ∷ 0 ∷ 5 ∷ 0 ∷ []) (numbers 0 1 0)
    ∷ by_sheet sheet_e (2 ∷ 7 ∷ 2 ∷ 0 ∷ 0 ∷ 0 ∷ 0 ∷ []) (numbers 0 0 0)
    ∷ []
