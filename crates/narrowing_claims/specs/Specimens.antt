-- What the theorems of proofs/Specimens are said in. Assumes nothing.
use Rattle.std.specs.Prelude.{Bool, true, false, ◌&&◌, List, [], ◌∷◌, ℕ, zero, suc, eqb, length}
use Rattle.answers.specs.Numbers.{numbers}
use Rattle.answers.specs.declared.Numbers.{Numbers}
use Rattle.clock.specs.Clock.{no_limit}
use Rattle.book.proofs.Specimen.{book_e, sheet_e, same}
use Rattle.narrowing.specs.Sheet.{narrowing, table_after}

-- a sheet, the number of an alternative, a lent table; the answer, and the table afterwards
pub record Specimen : Type 0 where
  pub sheet : List ℕ
  pub alternative : ℕ
  pub table : List ℕ
  pub answer : Numbers
  pub after : List ℕ

abbrev pub row : List ℕ → ℕ → List ℕ → Numbers → List ℕ → Specimen
row s a m n after = record { sheet = s; alternative = a; table = m; answer = n; after = after }

unfoldable pub same_words : List ℕ → List ℕ → Bool
same_words [] [] = true
same_words [] (y ∷ ys) = false
same_words (x ∷ xs) [] = false
same_words (x ∷ xs) (y ∷ ys) = eqb x y && same_words xs ys

-- both are as stated
unfoldable pub stands : Specimen → Bool
stands x =
    same (narrowing x.sheet x.alternative (length x.table)) x.answer && same_words (table_after x.sheet x.alternative x.table) x.after

-- a lent table of n words, 9 each
unfoldable pub nines : ℕ → List ℕ
nines zero = []
nines (suc n) = 9 ∷ nines n

unfoldable pub specimens : List Specimen
specimens =
    -- E's sheet, a word behind the table
    row sheet_e 0 (nines 5) (numbers 0 0 0) (64 ∷ 864 ∷ 216 ∷ 64 ∷ 9 ∷ [])
    -- too short
    ∷ row sheet_e 0 (nines 3) (numbers 25 0 0) (9 ∷ 9 ∷ 9 ∷ [])
    -- no such alternative, before a table too short
    ∷ row sheet_e 1 (nines 0) (numbers 27 0 0) ([])
    -- a book is no sheet
    ∷ row book_e 0 (nines 5) (numbers 2 0 0) (9 ∷ 9 ∷ 9 ∷ 9 ∷ 9 ∷ [])
    -- trigger before 1 and 1 before trigger: nothing is left anywhere
    ∷ row (2 ∷ 35 ∷ 1 ∷ 14 ∷ 1 ∷ 16 ∷ 1 ∷ 19 ∷ 1 ∷ 23 ∷ 1 ∷ 27 ∷ 2 ∷ 29 ∷ 0 ∷ 1 ∷ 1 ∷ no_limit ∷ 1 ∷ 0 ∷ 0 ∷ 0 ∷ 1 ∷ 0 ∷ 1 ∷ 0 ∷ 2 ∷ 0 ∷ 0 ∷ 0 ∷ 1 ∷ 1 ∷ 1 ∷ 0 ∷ 1 ∷ []) 0 (nines 4) (numbers 0 0 0) (0 ∷ 0 ∷ 0 ∷ 0 ∷ [])
    -- 1 before itself
    ∷ row (2 ∷ 32 ∷ 1 ∷ 14 ∷ 1 ∷ 16 ∷ 1 ∷ 19 ∷ 1 ∷ 23 ∷ 1 ∷ 27 ∷ 1 ∷ 29 ∷ 0 ∷ 1 ∷ 1 ∷ no_limit ∷ 1 ∷ 0 ∷ 0 ∷ 0 ∷ 1 ∷ 0 ∷ 1 ∷ 0 ∷ 1 ∷ 0 ∷ 0 ∷ 1 ∷ 1 ∷ 1 ∷ []) 0 (nines 4) (numbers 0 0 0) (0 ∷ 0 ∷ 0 ∷ 0 ∷ [])
    -- 1 in any relation with itself
    ∷ row (2 ∷ 32 ∷ 1 ∷ 14 ∷ 1 ∷ 16 ∷ 1 ∷ 19 ∷ 1 ∷ 23 ∷ 1 ∷ 27 ∷ 1 ∷ 29 ∷ 0 ∷ 1 ∷ 1 ∷ no_limit ∷ 1 ∷ 0 ∷ 0 ∷ 0 ∷ 1 ∷ 0 ∷ 1 ∷ 0 ∷ 1 ∷ 0 ∷ 0 ∷ 1 ∷ 1 ∷ 8191 ∷ []) 0 (nines 4) (numbers 0 0 0) (64 ∷ 8191 ∷ 8191 ∷ 64 ∷ [])
    -- no trigger, 1 meets 2
    ∷ row (2 ∷ 34 ∷ 1 ∷ 14 ∷ 1 ∷ 16 ∷ 1 ∷ 19 ∷ 1 ∷ 23 ∷ 2 ∷ 27 ∷ 1 ∷ 31 ∷ 0 ∷ 1 ∷ 1 ∷ no_limit ∷ 1 ∷ no_limit ∷ 0 ∷ 0 ∷ 1 ∷ 0 ∷ 2 ∷ 0 ∷ 1 ∷ 0 ∷ 0 ∷ 0 ∷ 0 ∷ 1 ∷ 2 ∷ 2 ∷ []) 0 (nines 5) (numbers 0 0 0) (64 ∷ 2 ∷ 2048 ∷ 64 ∷ 9 ∷ [])
    -- no trigger and no names: no words
    ∷ row (2 ∷ 27 ∷ 1 ∷ 14 ∷ 1 ∷ 16 ∷ 1 ∷ 19 ∷ 1 ∷ 23 ∷ 0 ∷ 27 ∷ 0 ∷ 27 ∷ 0 ∷ 1 ∷ 1 ∷ no_limit ∷ 1 ∷ no_limit ∷ 0 ∷ 0 ∷ 1 ∷ 0 ∷ 0 ∷ 0 ∷ 0 ∷ []) 0 (nines 0) (numbers 0 0 0) ([])
    -- 1 before 2, 2 before 3: 1 before 3 follows
    ∷ row (2 ∷ 39 ∷ 1 ∷ 14 ∷ 1 ∷ 16 ∷ 1 ∷ 19 ∷ 1 ∷ 23 ∷ 3 ∷ 27 ∷ 2 ∷ 33 ∷ 0 ∷ 1 ∷ 1 ∷ no_limit ∷ 1 ∷ no_limit ∷ 0 ∷ 0 ∷ 1 ∷ 0 ∷ 3 ∷ 0 ∷ 2 ∷ 0 ∷ 0 ∷ 0 ∷ 0 ∷ 0 ∷ 0 ∷ 1 ∷ 2 ∷ 1 ∷ 2 ∷ 3 ∷ 1 ∷ []) 0 (nines 9) (numbers 0 0 0) (64 ∷ 1 ∷ 1 ∷ 4096 ∷ 64 ∷ 1 ∷ 4096 ∷ 4096 ∷ 64 ∷ [])
    -- can't be met by any tokens, and nothing of it is cut
    ∷ row (2 ∷ 51 ∷ 1 ∷ 14 ∷ 1 ∷ 16 ∷ 1 ∷ 19 ∷ 1 ∷ 23 ∷ 3 ∷ 27 ∷ 6 ∷ 33 ∷ 0 ∷ 1 ∷ 1 ∷ no_limit ∷ 1 ∷ 0 ∷ 0 ∷ 0 ∷ 1 ∷ 0 ∷ 3 ∷ 0 ∷ 6 ∷ 0 ∷ 0 ∷ 0 ∷ 0 ∷ 0 ∷ 0 ∷ 0 ∷ 2 ∷ 4 ∷ 0 ∷ 1 ∷ 34 ∷ 0 ∷ 3 ∷ 34 ∷ 1 ∷ 2 ∷ 272 ∷ 3 ∷ 2 ∷ 272 ∷ 1 ∷ 3 ∷ 520 ∷ []) 0 (nines 16) (numbers 0 0 0) (64 ∷ 34 ∷ 4 ∷ 34 ∷ 2176 ∷ 64 ∷ 272 ∷ 520 ∷ 1024 ∷ 272 ∷ 64 ∷ 272 ∷ 2176 ∷ 520 ∷ 272 ∷ 64 ∷ [])
    ∷ []
