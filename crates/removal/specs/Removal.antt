-- What taking rules out of a book answers, and the lent words afterwards. Assumes nothing.
use Rattle.std.specs.Prelude.{Bool, true, ◌&&◌, cond, List, [], ◌∷◌, ℕ, ◌+◌, ltb, leb, eqb, length}
use Rattle.answers.specs.declared.Numbers.{Numbers}
use Rattle.answers.specs.Numbers.{numbers, no_fault, or_else}
use Rattle.layout.specs.Layout.{count}
use Rattle.book.specs.Rules.{rules_of}
use Rattle.book.specs.Encode.{atoms}
use Rattle.book.specs.Fault.{book_fault}
use Rattle.desks.specs.List.{list_right}
use Rattle.removal.specs.Removed.{kept, removed_book, in_front}

-- "strictly increasing", each below n: the first is `from` or more, each next one more than the one before or above that
unfoldable pub rising : ℕ → ℕ → List ℕ → Bool
rising from n [] = true
rising from n (x ∷ xs) = leb from x && (ltb x n && rising (x + 1) n xs)

-- 19 "for a list of the wrong length, a word over 1"
unfoldable pub desk_fault : List ℕ → List ℕ → Numbers
desk_fault b desks = cond (list_right b desks) no_fault (numbers 19 0 0)

-- 24 "for a list not strictly increasing or a number not in the book"
unfoldable pub list_fault : List ℕ → List ℕ → Numbers
list_fault b list = cond (rising 0 (count b 2) list) no_fault (numbers 24 0 0)

-- "Refusals: 1 to 4 and 19 first; then 24"
unfoldable pub removal_fault : List ℕ → List ℕ → List ℕ → Numbers
removal_fault b desks list = or_else (book_fault 1 b) (or_else (desk_fault b desks) (list_fault b list))

-- "Success is 0 with the book's new words and rule count"
unfoldable pub removal : List ℕ → List ℕ → List ℕ → Numbers
removal b desks list = or_else (removal_fault b desks list) (numbers 0 (length (removed_book b list)) (length (kept list 0 (rules_of atoms b))))

-- "close all tables up in the lent book"; "All lent tables are untouched then", on a refusal
unfoldable pub book_after : List ℕ → List ℕ → List ℕ → List ℕ
book_after b desks list = cond (eqb (removal b desks list).number 0) (in_front (removed_book b list) b) b

-- "L5's desk list is closed up alike"
unfoldable pub desks_after : List ℕ → List ℕ → List ℕ → List ℕ
desks_after b desks list = cond (eqb (removal b desks list).number 0) (in_front (kept list 0 desks) desks) desks
