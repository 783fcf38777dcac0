-- What is left of each table to count or to write, at item i of the list or rule i of the sheet. Assumes nothing.
use Rattle.std.specs.Prelude.{ℕ, zero, suc, ◌+◌, ◌-◌, ◌/◌, ◌%◌, length, drop}
use mathlib.Core.List.{List, [], ◌∷◌, map, flat_map}
use Rattle.words.specs.Runs.{run}
use Rattle.book.specs.Rules.{Atom, Alternative, name_at}
use Rattle.book.specs.Encode.{name_words, atom_words, alternative_rows, rule_rows, names_of, asks_of}
use Rattle.allen.specs.Atoms.{atoms_of}
use Rattle.listing.specs.Items.{alt_of, asks_from, rule_for}

-- the words of the n - i names that are left, the first at the place q
unfoldable pub name_words_from : List ℕ → ℕ → ℕ → ℕ → List ℕ
name_words_from s n i q = flat_map name_words (run (name_at s) 2 (n - i) q)

-- the words of the atoms of the k - i constraints that are left
unfoldable pub atom_words_from : List ℕ → ℕ → ℕ → ℕ → ℕ → List ℕ
atom_words_from s k i q code = flat_map atom_words (asks_from s (k - i) q code)

-- how many these are: the place does not matter
unfoldable pub count_from : ℕ → ℕ → ℕ
count_from zero code = 0
count_from (suc k) code = length (atoms_of (code % 16) 0 0) + count_from k (code / 16)

-- the words of the names and of the atoms of an item
unfoldable pub item_names : List ℕ → ℕ → List ℕ
item_names s item = flat_map name_words (alt_of s item).names

unfoldable pub item_atoms : List ℕ → ℕ → List ℕ
item_atoms s item = flat_map atom_words (alt_of s item).asks

-- a relation's atoms are as many for any two tokens: a table of sixteen numbers
abbrev pub sizes : List ℕ
sizes = 1 ∷ 1 ∷ 3 ∷ 2 ∷ 2 ∷ 2 ∷ 2 ∷ 2 ∷ 2 ∷ 2 ∷ 3 ∷ 1 ∷ 1 ∷ 0 ∷ 0 ∷ 0 ∷ []

-- ---- all items from item i on

module _ (s list : List ℕ) where
  unfoldable pub alts_left : ℕ → List (Alternative Atom)
  alts_left i = map (alt_of s) (drop i list)

  unfoldable pub names_left : ℕ → List ℕ
  names_left i = flat_map name_words (names_of (alts_left i))

  unfoldable pub atoms_left : ℕ → List ℕ
  atoms_left i = flat_map atom_words (asks_of (alts_left i))

  unfoldable pub rows_left : ℕ → ℕ → ℕ → List ℕ
  rows_left i name atom = alternative_rows (name, atom) (alts_left i)

  unfoldable pub name_count : ℕ → ℕ
  name_count i = length (names_of (alts_left i))

  unfoldable pub atom_count : ℕ → ℕ
  atom_count i = length (asks_of (alts_left i))

-- ---- all rules from rule i on, of n, at the place q; the next alternative is number k

unfoldable pub rules_left : List ℕ → ℕ → ℕ → ℕ → ℕ → List ℕ
rules_left s n i q k = rule_rows k (run (rule_for s) 4 (n - i) q)
