-- The book that a sheet becomes. Assumes nothing.
use Rattle.std.specs.Prelude.{List, ℕ, ◌*◌, take, drop}
use Rattle.layout.specs.Layout.{count, offset, width}
use Rattle.book.specs.Encode.{atoms, book_of}
use Rattle.listing.specs.Expand.{rules_for}

-- the words of table t as they stand
abbrev pub table_words : ℕ → List ℕ → ℕ → List ℕ
table_words e s t = take (count s t * width e t) (drop (offset s t) s)

-- the book that a sheet becomes: "Names are copied into each, variables and values once"
unfoldable pub translated : List ℕ → List ℕ
translated s = book_of atoms 1 (count s 0) (table_words 2 s 0) (count s 1) (table_words 2 s 1) (rules_for s)
