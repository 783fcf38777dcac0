-- Answers 5 to 11: what is wrong with a plan, given the book, row by row of the fault table. Rows 5 to 7 are the lines'. Assumes nothing.
use Rattle.std.specs.Prelude.{Bool, ◌&&◌, not, cond, List, ℕ, ◌+◌, ◌-◌, ltb, eqb}
use Rattle.answers.specs.declared.Numbers.{Numbers}
use Rattle.answers.specs.Numbers.{numbers, no_fault, or_else}
use Rattle.words.specs.Words.{word, in_set}
use Rattle.words.specs.Least.{least}
use Rattle.clock.specs.Clock.{last_tick, no_limit, in_bounds}
use Rattle.layout.specs.Layout.{count, record_at, field}
use Rattle.records.specs.Wrong.{value_unknown}
use Rattle.lines.specs.Lines.{line_count}
pub use Rattle.lines.specs.Lines.{value_of, duration_of}
unfoldable pub use Rattle.lines.specs.Lines.{start_of}
pub use Rattle.lines.specs.Fault.{first_head}
use Rattle.lines.specs.Ends.{ends_fault}
unfoldable pub use Rattle.lines.specs.Fault.{length_fault, sum_before, head_wrong, head_fault, end_fault}

-- where the book has value x of variable v
abbrev pub value_place : List ℕ → ℕ → ℕ → ℕ
value_place b v x = record_at 1 b 1 (field 1 b 0 v 0 + x)

-- "duration outside least..greatest": it is the difference between 0 and d
abbrev pub outside_of : ℕ → ℕ → ℕ → Bool
outside_of least greatest d = not (in_bounds no_limit 0 d least greatest)

-- of the value at a place of the book
unfoldable pub duration_outside : List ℕ → ℕ → ℕ → Bool
duration_outside b place d = outside_of (word b place) (word b (place + 1)) d

-- "not a successor of the token before", whose value is at a place of the book: "Bit j of the set says that value j may follow"
unfoldable pub not_successor : List ℕ → ℕ → ℕ → Bool
not_successor b place x = not (in_set (word b (place + 2)) x)

-- "each token is tested 8, 9, 10, 11"; "Any value may stand first"
unfoldable pub token_fault : List ℕ → List ℕ → ℕ → ℕ → ℕ
token_fault b p v j =
    cond (value_unknown 1 b v (value_of p v j)) 8
    (cond (duration_outside b (value_place b v (value_of p v j)) (duration_of p v j)) 9
    (cond (not (eqb j 0) && not_successor b (value_place b v (value_of p v (j - 1))) (value_of p v j)) 10
    (cond (ltb last_tick (start_of p v j + duration_of p v j)) 11 0)))

unfoldable pub token_wrong : List ℕ → List ℕ → ℕ → ℕ → Bool
token_wrong b p v j = not (eqb (token_fault b p v j) 0)

-- the first token of line v with a fault, or the count where all are right
unfoldable pub first_token : List ℕ → List ℕ → ℕ → ℕ
first_token b p v = least (line_count p v) (token_wrong b p v)

unfoldable pub line_wrong : List ℕ → List ℕ → ℕ → Bool
line_wrong b p v = ltb (first_token b p v) (line_count p v)

abbrev pub first_line : List ℕ → List ℕ → ℕ
first_line b p = least (count b 0) (line_wrong b p)

-- the fault of the first faulty token of line v
abbrev pub line_fault : List ℕ → List ℕ → ℕ → Numbers
line_fault b p v = numbers (token_fault b p v (first_token b p v)) v (first_token b p v)

-- 8 to 11: "Timelines go in order, tokens in order"
unfoldable pub tokens_fault : List ℕ → List ℕ → Numbers
tokens_fault b p = cond (ltb (first_line b p) (count b 0)) (line_fault b p (first_line b p)) no_fault

-- "Fault numbers, in order of checking"; 18 "after 8 to 11 for all lines"
unfoldable pub plan_fault : List ℕ → List ℕ → Numbers
plan_fault b p =
    or_else (length_fault b p) (or_else (head_fault b p) (or_else (end_fault b p) (or_else (tokens_fault b p) (ends_fault b p))))
