-- The book, table by table as it is written, and what has to be there for it to be written. Assumes nothing.
use Rattle.std.specs.Prelude.{◌≡◌, ℕ, ◌+◌, ◌-◌, ◌*◌, ◌≤◌, List, [], ◌∷◌, ◌++◌, length, take, drop}
use Rattle.layout.specs.Layout.{count, offset}
use Rattle.book.specs.Sound.{Sound}
use Rattle.listing.specs.Items.{all_items}
use Rattle.writing.specs.Left.{atom_count, atoms_left, name_count, names_left, rows_left, rules_left}
use Rattle.listing.specs.Listed.{sizes_from}

-- where table 4, table 5 and the book end, with n alternatives, m names and k atoms
abbrev pub after_rows : List ℕ → ℕ → ℕ
after_rows s n = offset s 3 + 4 * n

abbrev pub after_names : List ℕ → ℕ → ℕ → ℕ
after_names s n m = offset s 3 + 4 * n + 2 * m

abbrev pub book_end : List ℕ → ℕ → ℕ → ℕ → ℕ
book_end s n m k = offset s 3 + 4 * n + 2 * m + 6 * k

-- the header: what the sheet says of tables 0 to 2 stays
abbrev pub head : List ℕ → ℕ → ℕ → ℕ → List ℕ
head s n m k =
    1 ∷ book_end s n m k ∷ count s 0 ∷ 14 ∷ count s 1 ∷ offset s 1 ∷ count s 2 ∷ offset s 2
    ∷ n ∷ offset s 3 ∷ m ∷ after_rows s n ∷ k ∷ after_names s n m ∷ []

-- tables 0 and 1, as they stand
abbrev pub copied : List ℕ → List ℕ
copied s = take (offset s 2 - 14) (drop 14 s)

-- tables 2 to 5
unfoldable pub tables_by : List ℕ → List ℕ → List ℕ
tables_by s list = rules_left s (count s 2) 0 (offset s 2) 0 ++ (rows_left s list 0 0 0 ++ (names_left s list 0 ++ atoms_left s list 0))

-- what is there once all rules are listed and none has too many
pub record Ready (s list numbers : List ℕ) : Type 0 where
  pub sound : Sound 2 s
  pub items : list ≡ all_items s
  pub counts : numbers ≡ sizes_from s (count s 2) (offset s 2)
  pub few : length list ≤ 4096

-- and once they are counted and no table is too long: there is room for the book
pub record Counted (s list : List ℕ) (m k : ℕ) (room : List ℕ) : Type 0 where
  pub names : m ≡ name_count s list 0
  pub atoms : k ≡ atom_count s list 0
  pub few_names : m ≤ 2048
  pub few_atoms : k ≤ 2048
  pub short : book_end s (length list) m k ≤ 16384
  pub fits : book_end s (length list) m k ≤ length room
