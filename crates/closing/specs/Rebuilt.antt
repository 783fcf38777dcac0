-- A book written anew with given rules. Assumes nothing.
use Rattle.std.specs.Prelude.{List, ℕ}
use Rattle.layout.specs.Layout.{count}
use Rattle.book.specs.Rules.{Atom, Rule}
use Rattle.book.specs.Encode.{atoms, book_of}
use Rattle.writing.specs.Book.{table_words}

-- "close all tables up .. and correct header and ranges": the book b with its variables and values, as they stand, and these rules
unfoldable pub rebuilt : List ℕ → List (Rule Atom) → List ℕ
rebuilt b rules = book_of atoms 1 (count b 0) (table_words 1 b 0) (count b 1) (table_words 1 b 1) rules
