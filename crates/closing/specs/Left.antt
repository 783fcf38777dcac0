-- What is left of each list and each table to write, from an index on: of the numbers of some rules, `left`, and of their alternatives, `alts`.
-- Assumes nothing.
use Rattle.std.specs.Prelude.{◌≡◌, ℕ, ◌+◌, ◌*◌, ◌≤◌, ◌<◌, length, get_or, drop}
use mathlib.Core.List.{List, [], ◌∷◌, ◌++◌, map, flat_map}
use Rattle.words.specs.Words.{word}
use Rattle.words.specs.Runs.{run}
use Rattle.layout.specs.Layout.{count, offset}
use Rattle.book.specs.Rules.{Atom, Alternative, Rule, rule_at, alternative_at}
use Rattle.book.specs.Encode.{atoms, rule_rows, alternative_rows}
use Rattle.book.specs.Sound.{Sound}
use Rattle.writing.specs.Whole.{copied}
use Rattle.closing.specs.Rebuilt.{rebuilt}

-- n numbers, the first of which is k
unfoldable pub numbers_from : ℕ → ℕ → List ℕ
numbers_from n k = run (λ i. i) 1 n k

-- what f adds up to
unfoldable pub total : (ℕ → ℕ) → List ℕ → ℕ
total f [] = 0
total f (x ∷ xs) = f x + total f xs

-- the alternatives of each rule of the list are among 1,024
abbrev pub Ranged : List ℕ → List ℕ → Type 0
Ranged b left =
    (i : ℕ) → i < length left → word b (offset b 2 + 4 * get_or left i 0 + 2) + word b (offset b 2 + 4 * get_or left i 0 + 3) ≤ 1024

module _ (b : List ℕ) where
  -- rule x and alternative a of the book, and the numbers of rule x's alternatives
  unfoldable pub rule_in : ℕ → Rule Atom
  rule_in x = rule_at atoms b (offset b 2 + 4 * x)

  unfoldable pub alternative_in : ℕ → Alternative Atom
  alternative_in a = alternative_at atoms b (offset b 3 + 4 * a)

  unfoldable pub alternatives_of : ℕ → List ℕ
  alternatives_of x = numbers_from (word b (offset b 2 + 4 * x + 3)) (word b (offset b 2 + 4 * x + 2))

  -- the n words from the place k on, 0 past the end
  unfoldable pub words_at : ℕ → ℕ → List ℕ
  words_at k n = run (word b) 1 n k

  -- word j of alternative a
  unfoldable pub alt_word : ℕ → ℕ → ℕ
  alt_word j a = word b (offset b 3 + 4 * a + j)

  -- the words of its range at word j into a table at the place o, with records of w words
  unfoldable pub part : ℕ → ℕ → ℕ → ℕ → List ℕ
  part j w o a = words_at (o + w * alt_word j a) (w * alt_word (j + 1) a)

  -- the alternatives of the rules from index i on, table 2 with the next alternative number k, table 3 with the next name and atom
  unfoldable pub alts_from : List ℕ → ℕ → List ℕ
  alts_from left i = flat_map alternatives_of (drop i left)

  unfoldable pub rules_from : List ℕ → ℕ → ℕ → List ℕ
  rules_from left i k = rule_rows k (map rule_in (drop i left))

  unfoldable pub rows_from : List ℕ → ℕ → ℕ → ℕ → List ℕ
  rows_from alts i name atom = alternative_rows (name, atom) (map alternative_in (drop i alts))

  -- table 4 or 5
  unfoldable pub parts_from : List ℕ → ℕ → ℕ → ℕ → ℕ → List ℕ
  parts_from alts j w o i = flat_map (part j w o) (drop i alts)

  -- the sum of word j of the alternatives from index i on
  unfoldable pub total_from : List ℕ → ℕ → ℕ → ℕ
  total_from alts j i = total (alt_word j) (drop i alts)

  -- the header of a book with r rules, n alternatives, m names and k atoms: what is said of tables 0 and 1, and where table 2 begins, stays
  abbrev pub head_by : ℕ → ℕ → ℕ → ℕ → List ℕ
  head_by r n m k =
      let o3 = offset b 2 + 4 * r in
      let o4 = o3 + 4 * n in
      let o5 = o4 + 2 * m in
      let end = o5 + 6 * k in
      1 ∷ end ∷ count b 0 ∷ 14 ∷ count b 1 ∷ offset b 1 ∷ r ∷ offset b 2 ∷ n ∷ o3 ∷ m ∷ o4 ∷ k ∷ o5 ∷ []

  -- tables 2 to 5
  unfoldable pub tables_by : List ℕ → List ℕ → List ℕ
  tables_by left alts = rules_from left 0 0 ++ (rows_from alts 0 0 0 ++ (parts_from alts 0 2 (offset b 4) 0 ++ parts_from alts 2 6 (offset b 5) 0))

  -- the book, table by table as it is written
  unfoldable pub book_by : List ℕ → List ℕ → List ℕ
  book_by left alts = head_by (length left) (length alts) (total_from alts 1 0) (total_from alts 3 0) ++ (copied b ++ tables_by left alts)

-- the rules of these numbers can be written in the book's own place
pub record Fitting (b left : List ℕ) : Type 0 where
  pub sound : Sound 1 b
  pub ranged : Ranged b left
  pub alternatives : length (alts_from b left 0) ≤ 1024
  pub names : total_from b (alts_from b left 0) 1 0 ≤ 2048
  pub atoms : total_from b (alts_from b left 0) 3 0 ≤ 2048
  pub short : length (rebuilt b (map (rule_in b) left)) ≤ length b

-- and their alternatives are listed
pub record Ready (b left alts : List ℕ) : Type 0 where
  pub fitting : Fitting b left
  pub listed : alts ≡ alts_from b left 0
