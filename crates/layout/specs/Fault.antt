-- Answers 1 to 3: what is wrong with the layout of a book (edition e is 1) or a sheet (2), row by row of the fault table. Assumes nothing.
use Rattle.std.specs.Prelude.{◌||◌, cond, List, ℕ, ltb, eqb, length}
use Rattle.answers.specs.declared.Numbers.{Numbers}
use Rattle.answers.specs.Numbers.{numbers, no_fault, or_else}
use Rattle.words.specs.Least.{least}
use Rattle.layout.specs.Layout.{ending, header_wrong}

-- 1 "book length not 14..16,384"
unfoldable pub length_fault : List ℕ → Numbers
length_fault b = cond (ltb (length b) 14 || ltb 16384 (length b)) (numbers 1 0 0) no_fault

-- 2 "header word wrong, first of 0..13"
abbrev pub first_header : ℕ → List ℕ → ℕ
first_header e b = least 14 (header_wrong e b)

unfoldable pub header_fault : ℕ → List ℕ → Numbers
header_fault e b = cond (ltb (first_header e b) 14) (numbers 2 (first_header e b) 0) no_fault

-- 3 "table 5 doesn't end at the length"
unfoldable pub end_fault : ℕ → List ℕ → Numbers
end_fault e b = cond (eqb (ending e b 5) (length b)) no_fault (numbers 3 0 0)

-- the first of them that fits
unfoldable pub layout_fault : ℕ → List ℕ → Numbers
layout_fault e b = or_else (length_fault b) (or_else (header_fault e b) (end_fault e b))
