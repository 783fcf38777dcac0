-- The tokens and constraints of an alternative of a sheet, what `narrow` answers, and what the lent table then holds. Assumes nothing.
use Rattle.std.specs.Prelude.{cond, List, ℕ, ◌+◌, ◌-◌, ◌*◌, ltb, eqb, length}
use Rattle.answers.specs.declared.Numbers.{Numbers}
use Rattle.answers.specs.Numbers.{numbers, no_fault, or_else}
use Rattle.words.specs.Runs.{run}
use Rattle.layout.specs.Layout.{count, offset, field, owner}
use Rattle.records.specs.Wrong.{has_trigger}
use Rattle.book.specs.Rules.{Constraint, constraint_at}
use Rattle.book.specs.Fault.{book_fault}
use Rattle.narrowing.specs.declared.Alternative.{Alternative}
use Rattle.narrowing.specs.First.{filled, constrained_all}
use Rattle.narrowing.specs.Narrowed.{narrowed}

-- the rule in whose range alternative number a lies, a counted over the whole of table 3
unfoldable pub rule_of : List ℕ → ℕ → ℕ
rule_of s a = owner 2 s 2 2 a

-- "trigger first if there is one": the number that constraints give the first token, 0 the trigger or 1 the first name
unfoldable pub first_token : List ℕ → ℕ → ℕ
first_token s a = cond (has_trigger 2 s (rule_of s a)) 0 1

-- what an alternative has: its tokens, the trigger among them, and the constraints from a place of table 5 on
abbrev pub alternative_of : List ℕ → ℕ → Alternative
alternative_of s a =
    record {
      tokens = field 2 s 3 a 1 + (1 - first_token s a);
      first = first_token s a;
      place = offset s 5 + 3 * field 2 s 3 a 2;
      constraints = field 2 s 3 a 3;
    }

-- "a lent table for every pair of its tokens"
unfoldable pub words_for : List ℕ → ℕ → ℕ
words_for s a = (alternative_of s a).tokens * (alternative_of s a).tokens

unfoldable pub constraints_of : List ℕ → Alternative → List Constraint
constraints_of s p = run (constraint_at s) 3 p.constraints p.place

-- the table before composition cuts it
unfoldable pub first_table : List ℕ → Alternative → List ℕ → List ℕ
first_table s p m = constrained_all p.tokens p.first (constraints_of s p) (filled p.tokens (p.tokens * p.tokens) m)

-- "27 for an alternative number that the book hasn't got"
unfoldable pub number_fault : List ℕ → ℕ → Numbers
number_fault s a = cond (ltb a (count s 3)) no_fault (numbers 27 0 0)

-- "then 25 for a lent table too short"
unfoldable pub room_fault : List ℕ → ℕ → ℕ → Numbers
room_fault s a room = cond (ltb room (words_for s a)) (numbers 25 0 0) no_fault

-- "Refusals: 1 to 4, 27 as in L12, then 25 for a lent table too short"
unfoldable pub narrowing : List ℕ → ℕ → ℕ → Numbers
narrowing s a room = or_else (book_fault 2 s) (or_else (number_fault s a) (or_else (room_fault s a room) (numbers 0 0 0)))

-- "narrow the sets of each alternative of a sheet by composition until nothing changes"; "the table is untouched by all of these" refusals
unfoldable pub table_after : List ℕ → ℕ → List ℕ → List ℕ
table_after s a m = cond (eqb (narrowing s a (length m)).number 0) (narrowed (alternative_of s a).tokens (first_table s (alternative_of s a) m)) m
