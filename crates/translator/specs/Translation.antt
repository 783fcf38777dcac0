-- The translator's answer, and what the lent room holds afterwards; `rules_for`, `too_many` and `translated` are passed on, so that all that
-- the answer speaks of is named here. Assumes nothing.
use Rattle.std.specs.Prelude.{cond, List, ◌++◌, ℕ, ltb, eqb, length, drop}
use Rattle.answers.specs.declared.Numbers.{Numbers}
use Rattle.answers.specs.Numbers.{numbers, no_fault, or_else}
use Rattle.words.specs.Least.{first}
use Rattle.layout.specs.Layout.{most}
use Rattle.book.specs.Rules.{Atom, Rule}
use Rattle.book.specs.Encode.{alts_of, names_of, asks_of}
use Rattle.book.specs.Fault.{book_fault}
unfoldable pub use Rattle.listing.specs.Expand.{rules_for, too_many}
pub use Rattle.writing.specs.Book.{table_words}
unfoldable pub use Rattle.writing.specs.Book.{translated}

-- 13, with the first rule that has too many, if there is one
unfoldable pub rule_fault : List (Rule Atom) → Numbers
rule_fault rules = cond (ltb (first too_many rules) (length rules)) (numbers 13 (first too_many rules) 0) no_fault

-- 14 "first of tables 3, 4, 5 over its limit, or the total over 16,384 words, shown as 6"
unfoldable pub size_fault : List ℕ → Numbers
size_fault s =
    cond (ltb (most 3) (length (alts_of (rules_for s)))) (numbers 14 3 0)
    (cond (ltb (most 4) (length (names_of (alts_of (rules_for s))))) (numbers 14 4 0)
    (cond (ltb (most 5) (length (asks_of (alts_of (rules_for s))))) (numbers 14 5 0)
    (cond (ltb 16384 (length (translated s))) (numbers 14 6 0) no_fault)))

-- 15 "lent room shorter than the book (a words needed)"
unfoldable pub room_fault : List ℕ → ℕ → Numbers
room_fault s room = cond (ltb room (length (translated s))) (numbers 15 (length (translated s)) 0) no_fault

-- "Translator, after 1 to 4: 13 ..; 14 ..; 15 ..; 0 done (a words written, b alternatives)"
unfoldable pub translation : List ℕ → ℕ → Numbers
translation s room =
    or_else (book_fault 2 s)
    (or_else (rule_fault (rules_for s))
    (or_else (size_fault s)
    (or_else (room_fault s room) (numbers 0 (length (translated s)) (length (alts_of (rules_for s)))))))

-- "Refused, the room is untouched. Done, only the words written differ."
unfoldable pub room_after : List ℕ → List ℕ → List ℕ
room_after s room = cond (eqb (translation s (length room)).number 0) (translated s ++ drop (length (translated s)) room) room
