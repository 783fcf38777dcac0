-- Answers 1 to 4: what is wrong with a book (edition e is 1) or a sheet (2), row by row of the fault table. Rows 1 to 3 are the layout's.
-- Assumes nothing.
use Rattle.std.specs.Prelude.{Bool, false, ◌||◌, cond, List, [], ◌∷◌, ℕ, ltb, get_or}
use Rattle.answers.specs.declared.Numbers.{Numbers}
use Rattle.answers.specs.Numbers.{numbers_at, no_fault, or_else}
use Rattle.words.specs.Least.{least}
use Rattle.layout.specs.Layout.{count, unused}
pub use Rattle.layout.specs.Fault.{first_header}
unfoldable pub use Rattle.layout.specs.Fault.{length_fault, header_fault, end_fault}
use Rattle.records.specs.Wrong.{wrong_word, record_wrong}

-- the ranges of table t "don't use up the next table"
unfoldable pub leaves : ℕ → List ℕ → ℕ → Bool
leaves e b t =
    get_or (unused e b 0 0 1 ∷ false ∷ unused e b 2 2 3 ∷ (unused e b 3 0 4 || unused e b 3 2 5) ∷ false ∷ false ∷ []) t false

-- the "lowest record" that is bad, or the table's count where all are good
abbrev pub lowest : ℕ → List ℕ → ℕ → ℕ
lowest e b t = least (count b t) (record_wrong e b t)

unfoldable pub table_wrong : ℕ → List ℕ → ℕ → Bool
table_wrong e b t = ltb (lowest e b t) (count b t) || leaves e b t

-- 4 "bad record; tables 0 to 5, lowest record; a table only if those before are good"
abbrev pub first_table : ℕ → List ℕ → ℕ
first_table e b = least 6 (table_wrong e b)

-- "the first word of the record .. that is wrong"; "Where the record number equals the table's count, c is 0"
unfoldable pub told_word : ℕ → List ℕ → ℕ → ℕ → ℕ
told_word e b t i = cond (ltb i (count b t)) (wrong_word e b t i) 0

abbrev pub record_numbers : ℕ → List ℕ → ℕ → Numbers
record_numbers e b t = numbers_at 4 t (lowest e b t) (told_word e b t (lowest e b t))

unfoldable pub record_fault : ℕ → List ℕ → Numbers
record_fault e b = cond (ltb (first_table e b) 6) (record_numbers e b (first_table e b)) no_fault

-- "Fault numbers, in order of checking"
unfoldable pub book_fault : ℕ → List ℕ → Numbers
book_fault e b = or_else (length_fault b) (or_else (header_fault e b) (or_else (end_fault e b) (record_fault e b)))
