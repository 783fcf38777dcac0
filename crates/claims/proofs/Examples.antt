-- No claim here rests on an "if" that no input meets: for each row of the fault table there is an input that gets it, out of the table of
-- Specimens, and so what the row says is so of that input. Assumes nothing.
use mathlib.Core.Path.{◌≡◌, ap, ◌∙◌}
use mathlib.Core.Bool.{true, ◌&&◌}
use mathlib.Core.List.{List, [], ◌∷◌}
use Prim.Native.Nat.{ℕ, ◌<◌}
use native.Mathlib.Omega.{arith}
use lib.Dec.{eqb}
use lib.ListN.{length, get_or, take, set}
use borrow.Author.Tests.{eqb-true}
use Rattle.answers.specs.declared.Numbers.{Numbers}
use Rattle.answers.specs.Numbers.{numbers_at, numbers}
use Rattle.words.specs.Lists.{all, All}
use Rattle.clock.specs.Clock.{no_limit}
use Rattle.book.specs.Rules.{rules_of}
use Rattle.book.specs.Encode.{atoms, constraints}
use Rattle.book.proofs.Specimen.{book_e, sheet_e, same}
use Rattle.lines.specs.Lines.{line_of}
use Rattle.verdict.specs.Judged.{judged, judged_sheet}
use Rattle.translator.specs.Translation.{translation}
use Rattle.claims.specs.Specimens.{plan_p1, plan_p2, empty_plan, free_book, free_named, truck_book, job_book, Specimen, stretches, stands, specimens}
use Rattle.claims.proofs.Specimens.{all-stand}
use Rattle.claims.proofs.Matched.{and_so, all-at}
use Rattle.claims.specs.Answers.{Listed, book_length, book_header, book_end, book_record, plan_length, plan_header, plan_end, unknown, outside, breaks, late, apart, unmet, accepted}
use Rattle.claims.specs.Papers.{SatisfiedIn, Met, Satisfies}
use Rattle.claims.specs.Sheets.{Holds, SheetSatisfies}
use Rattle.claims.specs.RulesMet.{Fails}
use Rattle.claims.specs.Accepted.{Accepted, SheetAccepted, Examined}
use Rattle.claims.proofs.Accepted.{accepted_count, sheet_accepted_count}
use Rattle.claims.specs.FaultsOfRules.{FirstRule}
use Rattle.claims.proofs.FaultsOfRules.{fault_12, sheet_fault_12}

-- each row of the table stands
rows-stand : (xs : List Specimen) → all stands xs ≡ true → All (λ (s : Specimen). stands s ≡ true) xs
unfolding all
rows-stand [] h = tt
rows-stand (x ∷ xs) h = let q = (and_so (stands x) (all stands xs)).0 h in (q.0, rows-stand xs q.1)

-- row k of it
row : (k : ℕ) → k < length specimens → stands (get_or specimens k (stretches 0 0 0 0 0)) ≡ true
row = (all-at (λ (s : Specimen). stands s ≡ true) (stretches 0 0 0 0 0) specimens).0 (rows-stand specimens all-stand)

-- two answers with the same numbers are the same
same-is : (x y : Numbers) → same x y ≡ true → x ≡ y
same-is x y h =
    let p = (and_so _ _).0 h in
    let q = (and_so (eqb x.number y.number && eqb x.a y.a) (eqb x.b y.b)).0 p.0 in
    let r = (and_so (eqb x.number y.number) (eqb x.a y.a)).0 q.0 in
    let n = eqb-true _ _ r.0 in
    let a = eqb-true _ _ r.1 in
    let b = eqb-true _ _ q.1 in
    let c = eqb-true _ _ p.1 in
    ap (λ (k : ℕ). numbers_at k x.a x.b x.c) n
    ∙ ap (λ (k : ℕ). numbers_at y.number k x.b x.c) a
    ∙ ap (λ (k : ℕ). numbers_at y.number y.a k x.c) b
    ∙ ap (λ (k : ℕ). numbers_at y.number y.a y.b k) c

-- the rows 1 to 12, 18 and 0 of the fault table, each with an input that gets it
pub examples :
    (judged [] plan_p2 ≡ numbers 1 0 0)
    × (judged (set book_e 13 41) plan_p2 ≡ numbers 2 13 0)
    × (judged (set book_e 12 1) plan_p2 ≡ numbers 3 0 0)
    × (judged (set book_e 30 2) plan_p2 ≡ numbers 4 2 0)
    × (judged (set book_e 17 1) plan_p2 ≡ numbers 4 0 2)
    × (judged book_e [] ≡ numbers 5 0 0)
    × (judged book_e (set plan_p2 6 513) ≡ numbers 6 6 0)
    × (judged book_e (set (take 17 plan_p2) 1 17) ≡ numbers 7 0 0)
    × (judged book_e (set plan_p2 9 2) ≡ numbers 8 0 1)
    × (judged book_e (set plan_p2 14 4) ≡ numbers 9 1 1)
    × (judged book_e (set plan_p2 9 0) ≡ numbers 10 0 1)
    × (judged book_e (set plan_p2 10 999999991) ≡ numbers 11 0 1)
    × (judged book_e plan_p1 ≡ numbers 12 0 3)
    × (judged free_named empty_plan ≡ numbers 12 0 0)
    × (judged book_e plan_p2 ≡ numbers 0 2 0)
    × (judged free_book empty_plan ≡ numbers 0 1 0)
    × (judged book_e (set plan_p2 14 5) ≡ numbers 18 1 0)
examples = (
  same-is _ _ (row 13 (omega arith)),
  same-is _ _ (row 14 (omega arith)),
  same-is _ _ (row 15 (omega arith)),
  same-is _ _ (row 16 (omega arith)),
  same-is _ _ (row 17 (omega arith)),
  same-is _ _ (row 18 (omega arith)),
  same-is _ _ (row 19 (omega arith)),
  same-is _ _ (row 20 (omega arith)),
  same-is _ _ (row 8 (omega arith)),
  same-is _ _ (row 3 (omega arith)),
  same-is _ _ (row 7 (omega arith)),
  same-is _ _ (row 10 (omega arith)),
  same-is _ _ (row 0 (omega arith)),
  same-is _ _ (row 12 (omega arith)),
  same-is _ _ (row 1 (omega arith)),
  same-is _ _ (row 11 (omega arith)),
  same-is _ _ (row 5 (omega arith)),
)

-- row 4 with a word that isn't the record's first, by a book and by a sheet
pub word_example : judged (set book_e 51 4294967294) plan_p2 ≡ numbers_at 4 5 1 5
word_example = same-is _ _ (row 32 (omega arith))

pub word_sheet_example : judged_sheet (set sheet_e 42 8192) plan_p2 ≡ numbers_at 4 5 0 2
word_sheet_example = same-is _ _ (row 33 (omega arith))

-- 02, L8: a rule that asks for 20 before the end of the plan isn't met by P2's second job, which ends with the plan; with 0 it is
pub end_examples : (judged truck_book plan_p2 ≡ numbers 12 0 3) × (judged (set truck_book 56 0) plan_p2 ≡ numbers 0 2 0)
end_examples = (same-is _ _ (row 38 (omega arith)), same-is _ _ (row 39 (omega arith)))

-- 02, L7: two tokens of different jobs don't meet a rule that ties their jobs, two of one job do, and so do any two of edition 1
pub job_examples :
    (judged job_book (2 ∷ 11 ∷ 1 ∷ 0 ∷ 2 ∷ 0 ∷ 5 ∷ 0 ∷ 0 ∷ 5 ∷ no_limit ∷ []) ≡ numbers 12 0 0)
    × (judged job_book (2 ∷ 11 ∷ 1 ∷ 0 ∷ 2 ∷ 0 ∷ 5 ∷ no_limit ∷ 0 ∷ 5 ∷ no_limit ∷ []) ≡ numbers 0 1 0)
    × (judged job_book (1 ∷ 9 ∷ 1 ∷ 0 ∷ 2 ∷ 0 ∷ 5 ∷ 0 ∷ 5 ∷ []) ≡ numbers 0 1 0)
job_examples = (same-is _ _ (row 40 (omega arith)), same-is _ _ (row 41 (omega arith)), same-is _ _ (row 42 (omega arith)))

-- the direct judge's rows 12 and 0, and the translator's 0 and 15
pub sheet_examples :
    (judged_sheet sheet_e plan_p1 ≡ numbers 12 0 3)
    × (judged_sheet sheet_e plan_p2 ≡ numbers 0 2 0)
    × (translation sheet_e 106 ≡ numbers 0 106 4)
    × (translation sheet_e 105 ≡ numbers 15 106 0)
sheet_examples = (
  same-is _ _ (row 29 (omega arith)),
  same-is _ _ (row 30 (omega arith)),
  same-is _ _ (row 27 (omega arith)),
  same-is _ _ (row 28 (omega arith)),
)

-- so P2 is a solution plan of E, with two trigger tokens
pub P2-accepted : Accepted book_e plan_p2 × Examined (line_of plan_p2) (rules_of atoms book_e) 2
P2-accepted = (accepted_count book_e plan_p2 2).0 examples.14

-- and P1 isn't: its rule 0 fails first at token 3 of the RIP's line
pub P1-refused :
    FirstRule (rules_of atoms book_e) (Satisfies (SatisfiedIn (line_of plan_p1)) (line_of plan_p1))
    (λ r. Fails (line_of plan_p1) r (Met (SatisfiedIn (line_of plan_p1)) (line_of plan_p1) r)) 0 3
P1-refused = ((fault_12 book_e plan_p1 0 3).0 examples.12).3

-- the same of E's rule as a sheet
pub P2-sheet_accepted : SheetAccepted sheet_e plan_p2 × Examined (line_of plan_p2) (rules_of constraints sheet_e) 2
P2-sheet_accepted = (sheet_accepted_count sheet_e plan_p2 2).0 sheet_examples.1

pub P1-sheet_refused : FirstRule (rules_of constraints sheet_e) (SheetSatisfies (line_of plan_p1)) (λ r. Fails (line_of plan_p1) r (Met Holds (line_of plan_p1) r)) 0 3
P1-sheet_refused = ((sheet_fault_12 sheet_e plan_p1 0 3).0 sheet_examples.0).3

-- no answer is listed that no input gets
pub listed_occurs : {x : Numbers} → Listed x → (b : List ℕ) × (p : List ℕ) × ((judged b p).number ≡ x.number)
listed_occurs book_length = ([], plan_p2, ap (λ (r : Numbers). r.number) examples.0)
listed_occurs (book_header word) = (set book_e 13 41, plan_p2, ap (λ (r : Numbers). r.number) examples.1)
listed_occurs book_end = (set book_e 12 1, plan_p2, ap (λ (r : Numbers). r.number) examples.2)
listed_occurs (book_record table row word) = (set book_e 51 4294967294, plan_p2, ap (λ (r : Numbers). r.number) word_example)
listed_occurs plan_length = (book_e, [], ap (λ (r : Numbers). r.number) examples.5)
listed_occurs (plan_header word) = (book_e, set plan_p2 6 513, ap (λ (r : Numbers). r.number) examples.6)
listed_occurs plan_end = (book_e, set (take 17 plan_p2) 1 17, ap (λ (r : Numbers). r.number) examples.7)
listed_occurs (unknown timeline token) = (book_e, set plan_p2 9 2, ap (λ (r : Numbers). r.number) examples.8)
listed_occurs (outside timeline token) = (book_e, set plan_p2 14 4, ap (λ (r : Numbers). r.number) examples.9)
listed_occurs (breaks timeline token) = (book_e, set plan_p2 9 0, ap (λ (r : Numbers). r.number) examples.10)
listed_occurs (late timeline token) = (book_e, set plan_p2 10 999999991, ap (λ (r : Numbers). r.number) examples.11)
listed_occurs (apart timeline) = (book_e, set plan_p2 14 5, ap (λ (r : Numbers). r.number) examples.16)
listed_occurs (unmet rule token) = (book_e, plan_p1, ap (λ (r : Numbers). r.number) examples.12)
listed_occurs (accepted triggers) = (book_e, plan_p2, ap (λ (r : Numbers). r.number) examples.14)
