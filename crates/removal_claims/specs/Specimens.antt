-- What the theorems of proofs/Specimens are said in. Assumes nothing.
use Rattle.std.specs.Prelude.{◌≡◌, List, [], ◌∷◌, ◌++◌, ℕ, drop}
use Rattle.answers.specs.Numbers.{numbers}
use Rattle.answers.specs.declared.Numbers.{Numbers}
use Rattle.clock.specs.Clock.{no_limit}
use Rattle.book.proofs.Specimen.{book_e, sheet_e}
use Rattle.verdict.specs.Judged.{judged}
use Rattle.claims.specs.Specimens.{plan_p1}
use Rattle.removal.specs.Removed.{removed_book}
use Rattle.removal.specs.Removal.{removal, book_after, desks_after}

-- a lent book, its list of desks, and a list of rule numbers; the answer, and both lent runs afterwards
pub record Specimen : Type 0 where
  pub book : List ℕ
  pub desks : List ℕ
  pub list : List ℕ
  pub answer : Numbers
  pub book_then : List ℕ
  pub desks_then : List ℕ

abbrev pub row : List ℕ → List ℕ → List ℕ → Numbers → List ℕ → List ℕ → Specimen
row b d l n b' d' = record { book = b; desks = d; list = l; answer = n; book_then = b'; desks_then = d' }

-- all three are as stated
abbrev pub Stands : Specimen → Type 0
Stands x =
    (removal x.book x.desks x.list ≡ x.answer)
    × (book_after x.book x.desks x.list ≡ x.book_then)
    × (desks_after x.book x.desks x.list ≡ x.desks_then)

-- two rules, of one alternative each, the first with a name
abbrev pub book_q : List ℕ
book_q =
    1 ∷ 37 ∷ 1 ∷ 14 ∷ 1 ∷ 16 ∷ 2 ∷ 19 ∷ 2 ∷ 27 ∷ 1 ∷ 35 ∷ 0 ∷ 37
    ∷ 0 ∷ 1 ∷ 1 ∷ no_limit ∷ 1 ∷ 0 ∷ 0 ∷ 0 ∷ 1 ∷ no_limit ∷ 0 ∷ 1 ∷ 1 ∷ 0 ∷ 1 ∷ 0 ∷ 0 ∷ 1 ∷ 0 ∷ 0 ∷ 0 ∷ 0 ∷ 0 ∷ []

unfoldable pub specimens : List Specimen
specimens =
    -- all rules of E go: the header says that four tables are empty, and old words stay past 30
    row book_e (1 ∷ []) (0 ∷ []) (numbers 0 30 0) ((1 ∷ 30 ∷ 2 ∷ 14 ∷ 4 ∷ 18 ∷ 0 ∷ 30 ∷ 0 ∷ 30 ∷ 0 ∷ 30 ∷ 0 ∷ 30 ∷ []) ++ drop 14 book_e) (1 ∷ [])
    -- nothing is listed
    ∷ row book_e (1 ∷ []) [] (numbers 0 52 1) book_e (1 ∷ [])
    -- a number that the book hasn't got, and one twice
    ∷ row book_e (1 ∷ []) (1 ∷ []) (numbers 24 0 0) book_e (1 ∷ [])
    ∷ row book_e (1 ∷ []) (0 ∷ 0 ∷ []) (numbers 24 0 0) book_e (1 ∷ [])
    -- 19 before 24: too short, and a word over 1
    ∷ row book_e [] (7 ∷ []) (numbers 19 0 0) book_e []
    ∷ row book_e (2 ∷ []) (7 ∷ []) (numbers 19 0 0) book_e (2 ∷ [])
    -- a sheet, before 19
    ∷ row sheet_e [] [] (numbers 2 0 0) sheet_e []
    -- Q without its first rule: its name goes, the second's range is corrected, old words stay past 27
    ∷ row book_q (1 ∷ 0 ∷ []) (0 ∷ []) (numbers 0 27 1)
    ((1 ∷ 27 ∷ 1 ∷ 14 ∷ 1 ∷ 16 ∷ 1 ∷ 19 ∷ 1 ∷ 23 ∷ 0 ∷ 27 ∷ 0 ∷ 27 ∷ 0 ∷ 1 ∷ 1 ∷ no_limit ∷ 1 ∷ no_limit ∷ 0 ∷ 0 ∷ 1 ∷ 0 ∷ 0 ∷ 0 ∷ 0 ∷ [])
    ++ drop 27 book_q) (0 ∷ 0 ∷ [])
    -- and without its second
    ∷ row book_q (1 ∷ 0 ∷ []) (1 ∷ []) (numbers 0 29 1)
    ((1 ∷ 29 ∷ 1 ∷ 14 ∷ 1 ∷ 16 ∷ 1 ∷ 19 ∷ 1 ∷ 23 ∷ 1 ∷ 27 ∷ 0 ∷ 29 ∷ 0 ∷ 1 ∷ 1 ∷ no_limit ∷ 1 ∷ 0 ∷ 0 ∷ 0 ∷ 1 ∷ 0 ∷ 1 ∷ 0 ∷ 0 ∷ 0 ∷ 0 ∷ [])
    ++ drop 29 book_q) (1 ∷ 0 ∷ [])
    -- not in increasing order
    ∷ row book_q (1 ∷ 0 ∷ []) (1 ∷ 0 ∷ []) (numbers 24 0 0) book_q (1 ∷ 0 ∷ [])
    -- the lent run afterwards is longer than its word 1
    ∷ row ((1 ∷ 30 ∷ 2 ∷ 14 ∷ 4 ∷ 18 ∷ 0 ∷ 30 ∷ 0 ∷ 30 ∷ 0 ∷ 30 ∷ 0 ∷ 30 ∷ []) ++ drop 14 book_e) [] [] (numbers 2 1 0)
    ((1 ∷ 30 ∷ 2 ∷ 14 ∷ 4 ∷ 18 ∷ 0 ∷ 30 ∷ 0 ∷ 30 ∷ 0 ∷ 30 ∷ 0 ∷ 30 ∷ []) ++ drop 14 book_e) []
    ∷ []

-- ---- plans by the shorter book

-- a line of one token
abbrev plan_one : List ℕ
plan_one = 1 ∷ 7 ∷ 1 ∷ 0 ∷ 1 ∷ 0 ∷ 5 ∷ []

-- a book, the list, and a plan; the plan's answer by the book, and by the shorter book
pub record Judgement : Type 0 where
  pub book : List ℕ
  pub list : List ℕ
  pub plan : List ℕ
  pub before : Numbers
  pub after : Numbers

abbrev pub judgement : List ℕ → List ℕ → List ℕ → Numbers → Numbers → Judgement
judgement b l p m n = record { book = b; list = l; plan = p; before = m; after = n }

abbrev pub Judged : Judgement → Type 0
Judged x = (judged x.book x.plan ≡ x.before) × (judged (removed_book x.book x.list) x.plan ≡ x.after)

unfoldable pub judgements : List Judgement
judgements =
    -- P1 breaks E's rule, and passes without it
    judgement book_e (0 ∷ []) plan_p1 (numbers 12 0 3) (numbers 0 0 0)
    -- a plan that isn't sound passes neither
    ∷ judgement book_e (0 ∷ []) [] (numbers 5 0 0) (numbers 5 0 0)
    -- one trigger token of Q's first rule, and its second rule, which counts 1
    ∷ judgement book_q [] plan_one (numbers 0 2 0) (numbers 0 2 0)
    ∷ judgement book_q (0 ∷ []) plan_one (numbers 0 2 0) (numbers 0 1 0)
    ∷ judgement book_q (0 ∷ 1 ∷ []) plan_one (numbers 0 2 0) (numbers 0 0 0)
    ∷ []
