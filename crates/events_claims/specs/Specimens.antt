-- What the theorems of proofs/Specimens are said in. Assumes nothing.
use Rattle.std.specs.Prelude.{Bool, ◌&&◌, List, [], ◌∷◌, ◌++◌, ℕ, zero, suc, length, take, drop, set}
use Rattle.answers.specs.declared.Numbers.{Numbers}
use Rattle.answers.specs.Numbers.{numbers}
use Rattle.clock.specs.Clock.{no_limit}
use Rattle.book.proofs.Specimen.{book_e, same}
use Rattle.event_list.specs.Sends.{is_words}
use Rattle.event_list.specs.Answers.{written_events, written_room, read_events, read_room}

-- a book, a plan or a list, and a lent room; the answer, and the room afterwards
pub record Specimen : Type 0 where
  pub book : List ℕ
  pub words : List ℕ
  pub room : List ℕ
  pub answer : Numbers
  pub after : List ℕ

abbrev pub row : List ℕ → List ℕ → List ℕ → Numbers → List ℕ → Specimen
row b w m n after = record { book = b; words = w; room = m; answer = n; after = after }

-- both are as stated
unfoldable pub writes : Specimen → Bool
writes x = same (written_events x.book x.words (length x.room)) x.answer && is_words (written_room x.book x.words x.room) x.after

unfoldable pub reads : Specimen → Bool
reads x = same (read_events x.book x.words (length x.room)) x.answer && is_words (read_room x.book x.words x.room) x.after

-- a room of n words, each x
unfoldable pub filled : ℕ → ℕ → List ℕ
filled x zero = []
filled x (suc n) = x ∷ filled x n

-- 01's plans P1 and P2, and their lists
abbrev pub plan_p1 : List ℕ
plan_p1 = 1 ∷ 21 ∷ 2 ∷ 0 ∷ 3 ∷ 3 ∷ 4 ∷ 0 ∷ 10 ∷ 1 ∷ 30 ∷ 0 ∷ 10 ∷ 0 ∷ 10 ∷ 1 ∷ 20 ∷ 0 ∷ 10 ∷ 1 ∷ 10 ∷ []

abbrev pub plan_p2 : List ℕ
plan_p2 = 1 ∷ 19 ∷ 2 ∷ 0 ∷ 2 ∷ 2 ∷ 4 ∷ 0 ∷ 10 ∷ 1 ∷ 40 ∷ 0 ∷ 10 ∷ 1 ∷ 20 ∷ 0 ∷ 10 ∷ 1 ∷ 10 ∷ []

abbrev pub list_p2 : List ℕ
list_p2 =
    1 ∷ 49 ∷ 5 ∷ 0 ∷ 2 ∷ 0 ∷ 0 ∷ 1 ∷ 1 ∷ 0 ∷ 1 ∷ 10 ∷ 4 ∷ 0 ∷ 0 ∷ 0 ∷ 0 ∷ 1 ∷ 1 ∷ 1 ∷ 0 ∷ 0 ∷ 1 ∷ 1 ∷ 1 ∷ 20 ∷ 2 ∷ 1 ∷ 1 ∷ 0
    ∷ 1 ∷ 0 ∷ 1 ∷ 10 ∷ 2 ∷ 1 ∷ 0 ∷ 0 ∷ 1 ∷ 1 ∷ 1 ∷ 10 ∷ 2 ∷ 0 ∷ 1 ∷ 0 ∷ 1 ∷ 1 ∷ 0 ∷ []

abbrev pub list_p1 : List ℕ
list_p1 =
    1 ∷ 55 ∷ 5 ∷ 0 ∷ 2 ∷ 0 ∷ 0 ∷ 1 ∷ 1 ∷ 0 ∷ 1 ∷ 10 ∷ 4 ∷ 0 ∷ 0 ∷ 0 ∷ 0 ∷ 1 ∷ 1 ∷ 1 ∷ 0 ∷ 0 ∷ 1 ∷ 1 ∷ 1 ∷ 20 ∷ 2 ∷ 1 ∷ 1 ∷ 0
    ∷ 1 ∷ 0 ∷ 1 ∷ 10 ∷ 4 ∷ 0 ∷ 1 ∷ 0 ∷ 0 ∷ 0 ∷ 1 ∷ 1 ∷ 0 ∷ 0 ∷ 1 ∷ 1 ∷ 1 ∷ 10 ∷ 2 ∷ 0 ∷ 0 ∷ 0 ∷ 1 ∷ 1 ∷ 0 ∷ []

-- one variable with one value, no rules
abbrev pub book_one : List ℕ
book_one = 1 ∷ 19 ∷ 1 ∷ 14 ∷ 1 ∷ 16 ∷ 0 ∷ 19 ∷ 0 ∷ 19 ∷ 0 ∷ 19 ∷ 0 ∷ 19 ∷ 0 ∷ 1 ∷ 1 ∷ no_limit ∷ 1 ∷ []

unfoldable pub written : List Specimen
written =
    -- the words written, and a later word stays
    row book_e plan_p2 (filled 9 50) (numbers 0 49 0) (list_p2 ++ filled 9 1)
    -- 21 "with the words needed", the room untouched
    ∷ row book_e plan_p2 (filled 9 48) (numbers 21 49 0) (filled 9 48)
    -- "P1 breaks a rule, and is written all the same"
    ∷ row book_e plan_p1 (filled 9 100) (numbers 0 55 0) (list_p1 ++ filled 9 45)
    -- the empty plan
    ∷ row book_e (1 ∷ 7 ∷ 2 ∷ 0 ∷ 0 ∷ 0 ∷ 0 ∷ []) (filled 9 3) (numbers 0 3 0) (1 ∷ 3 ∷ 0 ∷ [])
    -- "the job on both actions, N like any other"
    ∷ row book_one (2 ∷ 8 ∷ 1 ∷ 0 ∷ 1 ∷ 0 ∷ 5 ∷ no_limit ∷ []) (filled 0 15) (numbers 0 15 0) (2 ∷ 15 ∷ 2 ∷ 0 ∷ 1 ∷ 0 ∷ 0 ∷ 1 ∷ no_limit ∷ 5 ∷ 1 ∷ 0 ∷ 0 ∷ 0 ∷ no_limit ∷ [])
    -- 1 before 5; 18 before 21; 6 for edition 3
    ∷ row [] [] (filled 9 2) (numbers 1 0 0) (filled 9 2)
    ∷ row book_e (1 ∷ 9 ∷ 2 ∷ 0 ∷ 1 ∷ 1 ∷ 0 ∷ 0 ∷ 5 ∷ []) [] (numbers 18 1 0) []
    ∷ row book_e (3 ∷ 7 ∷ 2 ∷ 0 ∷ 0 ∷ 0 ∷ 0 ∷ []) (filled 9 4) (numbers 6 0 0) (filled 9 4)
    ∷ []

unfoldable pub lists_read : List Specimen
lists_read =
    -- the plan, and a later word stays
    row book_e list_p2 (filled 9 20) (numbers 0 19 0) (plan_p2 ++ filled 9 1)
    -- 21 "shows the plan's words"
    ∷ row book_e list_p2 (filled 9 18) (numbers 21 19 0) (filled 9 18)
    -- "a word more; all ends before all starts; start before end"
    ∷ row book_e (list_p2 ++ 0 ∷ []) (filled 9 20) (numbers 20 0 0) (filled 9 20)
    ∷ row book_e (take 13 list_p2 ++ (0 ∷ 0 ∷ 0 ∷ 1 ∷ 0 ∷ 0 ∷ 0 ∷ 1 ∷ 1 ∷ 1 ∷ 1 ∷ 1 ∷ []) ++ drop 25 list_p2) (filled 9 20) (numbers 20 0 0) (filled 9 20)
    ∷ row book_e (take 13 list_p2 ++ (0 ∷ 1 ∷ 1 ∷ 0 ∷ 0 ∷ 0 ∷ []) ++ drop 19 list_p2) (filled 9 20) (numbers 20 0 0) (filled 9 20)
    -- "the first delay 1; a later one 0; the end names another value than the start; a short room doesn't hide 20"
    ∷ row book_e (set list_p2 3 1) (filled 9 20) (numbers 20 0 0) (filled 9 20)
    ∷ row book_e (set list_p2 25 0) (filled 9 20) (numbers 20 0 0) (filled 9 20)
    ∷ row book_e (set list_p2 14 1) (filled 9 20) (numbers 20 0 0) (filled 9 20)
    ∷ row book_e (set list_p2 14 1) [] (numbers 20 0 0) []
    -- "an event without actions at the end, and the empty list with one"
    ∷ row book_e (1 ∷ 51 ∷ 6 ∷ drop 3 list_p2 ++ 1 ∷ 0 ∷ []) (filled 9 20) (numbers 20 0 0) (filled 9 20)
    ∷ row book_e (1 ∷ 5 ∷ 1 ∷ 0 ∷ 0 ∷ []) (filled 9 20) (numbers 20 0 0) (filled 9 20)
    -- "only line 0 runs: the plan would get 18"
    ∷ row book_e (1 ∷ 13 ∷ 2 ∷ 0 ∷ 1 ∷ 0 ∷ 0 ∷ 1 ∷ 5 ∷ 1 ∷ 0 ∷ 0 ∷ 0 ∷ []) (filled 9 20) (numbers 20 0 0) (filled 9 20)
    -- "counts that don't fit: nothing may wrap"
    ∷ row book_e (1 ∷ 5 ∷ 1 ∷ 0 ∷ no_limit ∷ []) (filled 9 20) (numbers 20 0 0) (filled 9 20)
    ∷ row book_e (1 ∷ 5 ∷ 1 ∷ 0 ∷ 1431655766 ∷ []) (filled 9 20) (numbers 20 0 0) (filled 9 20)
    ∷ row book_e (1 ∷ 3 ∷ no_limit ∷ []) (filled 9 20) (numbers 20 0 0) (filled 9 20)
    -- "times that leave 32 bits: N and then 6 more would wrap to 5"
    ∷ row book_one (1 ∷ 21 ∷ 3 ∷ 0 ∷ 1 ∷ 0 ∷ 0 ∷ 1 ∷ no_limit ∷ 2 ∷ 0 ∷ 0 ∷ 0 ∷ 0 ∷ 0 ∷ 1 ∷ 6 ∷ 1 ∷ 0 ∷ 0 ∷ 0 ∷ []) (filled 9 20) (numbers 20 0 0) (filled 9 20)
    -- "the empty plan, in both editions; shorter lists"
    ∷ row book_e (1 ∷ 3 ∷ 0 ∷ []) (filled 9 8) (numbers 0 7 0) (1 ∷ 7 ∷ 2 ∷ 0 ∷ 0 ∷ 0 ∷ 0 ∷ 9 ∷ [])
    ∷ row book_e (2 ∷ 3 ∷ 0 ∷ []) (filled 9 8) (numbers 0 7 0) (2 ∷ 7 ∷ 2 ∷ 0 ∷ 0 ∷ 0 ∷ 0 ∷ 9 ∷ [])
    ∷ row book_e (1 ∷ 3 ∷ 0 ∷ []) (filled 9 6) (numbers 21 7 0) (filled 9 6)
    ∷ row book_e (3 ∷ 3 ∷ 0 ∷ []) (filled 9 8) (numbers 20 0 0) (filled 9 8)
    ∷ row book_e (1 ∷ 2 ∷ []) (filled 9 8) (numbers 20 0 0) (filled 9 8)
    ∷ row book_e [] (filled 9 8) (numbers 20 0 0) (filled 9 8)
    -- "an end with another job; job 0 throughout is still edition 2"
    ∷ row book_one (2 ∷ 15 ∷ 2 ∷ 0 ∷ 1 ∷ 0 ∷ 0 ∷ 1 ∷ no_limit ∷ 5 ∷ 1 ∷ 0 ∷ 0 ∷ 0 ∷ 7 ∷ []) (filled 0 9) (numbers 20 0 0) (filled 0 9)
    ∷ row book_one (2 ∷ 15 ∷ 2 ∷ 0 ∷ 1 ∷ 0 ∷ 0 ∷ 1 ∷ 0 ∷ 5 ∷ 1 ∷ 0 ∷ 0 ∷ 0 ∷ 0 ∷ []) (filled 0 8) (numbers 0 8 0) (2 ∷ 8 ∷ 1 ∷ 0 ∷ 1 ∷ 0 ∷ 5 ∷ 0 ∷ [])
    ∷ row book_one (1 ∷ 13 ∷ 2 ∷ 0 ∷ 1 ∷ 0 ∷ 0 ∷ 1 ∷ 5 ∷ 1 ∷ 0 ∷ 0 ∷ 0 ∷ []) (filled 0 8) (numbers 0 7 0) (1 ∷ 7 ∷ 1 ∷ 0 ∷ 1 ∷ 0 ∷ 5 ∷ 0 ∷ [])
    -- "1 to 4, then 20"
    ∷ row [] [] (filled 9 2) (numbers 1 0 0) (filled 9 2)
    ∷ []
