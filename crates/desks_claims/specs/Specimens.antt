-- What the theorems of proofs/Specimens are said in. Assumes nothing.
use Rattle.std.specs.Prelude.{Bool, List, [], ◌∷◌, ℕ, set}
use Rattle.answers.specs.declared.Numbers.{Numbers}
use Rattle.answers.specs.Numbers.{numbers}
use Rattle.clock.specs.Clock.{no_limit}
use Rattle.book.proofs.Specimen.{book_e, same}
use Rattle.claims.specs.Specimens.{plan_p1, plan_p2}
use Rattle.desks.specs.Own.{judged_desk}

-- over E's variables two rules: 0 without trigger, names and atoms, and 1, which is E's
abbrev pub two_rules : List ℕ
two_rules =
    1 ∷ 60 ∷ 2 ∷ 14 ∷ 4 ∷ 18 ∷ 2 ∷ 30 ∷ 2 ∷ 38 ∷ 1 ∷ 46 ∷ 2 ∷ 48
    ∷ 0 ∷ 2 ∷ 2 ∷ 2
    ∷ 1 ∷ no_limit ∷ 2 ∷ 1 ∷ no_limit ∷ 1 ∷ 1 ∷ no_limit ∷ 2 ∷ 5 ∷ 60 ∷ 3
    ∷ no_limit ∷ 0 ∷ 0 ∷ 1 ∷ 1 ∷ 1 ∷ 1 ∷ 1
    ∷ 0 ∷ 0 ∷ 0 ∷ 0 ∷ 0 ∷ 1 ∷ 0 ∷ 2
    ∷ 0 ∷ 1
    ∷ 0 ∷ 1 ∷ 0 ∷ 0 ∷ 0 ∷ no_limit ∷ 1 ∷ 0 ∷ 1 ∷ 1 ∷ 0 ∷ no_limit ∷ []

-- a book of one variable and value, without rules
abbrev pub no_rules : List ℕ
no_rules = 1 ∷ 19 ∷ 1 ∷ 14 ∷ 1 ∷ 16 ∷ 0 ∷ 19 ∷ 0 ∷ 19 ∷ 0 ∷ 19 ∷ 0 ∷ 19 ∷ 0 ∷ 1 ∷ 1 ∷ no_limit ∷ 1 ∷ []

-- a desk asks: book, plan, list, desk, and its answer
pub record Asked : Type 0 where
  pub words : List ℕ
  pub plan : List ℕ
  pub desks : List ℕ
  pub desk : ℕ
  pub answer : Numbers

abbrev asks : List ℕ → List ℕ → List ℕ → ℕ → Numbers → Asked
asks b p desks desk n = record { words = b; plan = p; desks = desks; desk = desk; answer = n }

-- it is so
abbrev pub stands : Asked → Bool
stands a = same (judged_desk a.words a.plan a.desks a.desk) a.answer

-- the table
abbrev pub specimens : List Asked
specimens =
    -- E's rule is desk 1's: P1 breaks it, which is nothing to desk 0
    asks book_e plan_p1 (1 ∷ []) 0 (numbers 0 0 0)
    ∷ asks book_e plan_p1 (1 ∷ []) 1 (numbers 12 0 3)
    -- 19: a word over 1, "before 5"; a desk over 1; a list of the wrong length; and no rules, no words
    ∷ asks book_e [] (2 ∷ []) 0 (numbers 19 0 0)
    ∷ asks book_e plan_p2 (0 ∷ []) 2 (numbers 19 0 0)
    ∷ asks book_e plan_p2 (0 ∷ 0 ∷ []) 0 (numbers 19 0 0)
    ∷ asks book_e plan_p2 [] 0 (numbers 19 0 0)
    ∷ asks no_rules (1 ∷ 5 ∷ 1 ∷ 0 ∷ 0 ∷ []) [] 1 (numbers 0 0 0)
    -- "after 4": the book's fault comes first, whatever the list
    ∷ asks (set book_e 13 41) plan_p2 (2 ∷ []) 2 (numbers 2 13 0)
    -- 5 to 11 and 18 come after 19, for a desk without rules too
    ∷ asks book_e [] (1 ∷ []) 0 (numbers 5 0 0)
    ∷ asks book_e (set plan_p2 14 61) (1 ∷ []) 0 (numbers 9 1 1)
    ∷ asks book_e (set plan_p2 14 5) (1 ∷ []) 0 (numbers 18 1 0)
    -- "rule numbers are those of the whole book": desk 1's only rule is number 1
    ∷ asks two_rules plan_p1 (0 ∷ 1 ∷ []) 1 (numbers 12 1 3)
    ∷ asks two_rules plan_p1 (0 ∷ 1 ∷ []) 0 (numbers 0 1 0)
    -- "and the count is of its own triggers": 1 and 2, of 3
    ∷ asks two_rules plan_p2 (0 ∷ 1 ∷ []) 0 (numbers 0 1 0)
    ∷ asks two_rules plan_p2 (0 ∷ 1 ∷ []) 1 (numbers 0 2 0)
    ∷ asks two_rules plan_p2 (1 ∷ 1 ∷ []) 1 (numbers 0 3 0)
    ∷ asks two_rules plan_p2 (1 ∷ 1 ∷ []) 0 (numbers 0 0 0)
    ∷ []
