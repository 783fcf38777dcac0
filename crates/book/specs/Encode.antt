-- The words that say given rules: tables 2 to 5 with running ranges, and the header. Assumes nothing.
use Rattle.std.specs.Prelude.{ℕ, ◌+◌, ◌*◌, length}
use mathlib.Core.List.{List, [], ◌∷◌, ◌++◌, flat_map}
use Rattle.words.specs.Runs.{rows}
use Rattle.book.specs.Rules.{Name, Atom, Constraint, Alternative, Rule, Fifth, atom_at, constraint_at}

abbrev pub name_words : Name → List ℕ
name_words n = n.variable ∷ n.value ∷ []

abbrev pub atom_words : Atom → List ℕ
atom_words a = a.left_kind ∷ a.left ∷ a.right_kind ∷ a.right ∷ a.lower ∷ a.upper ∷ []

abbrev pub constraint_words : Constraint → List ℕ
constraint_words q = q.left ∷ q.right ∷ q.set ∷ []

abbrev pub atoms : Fifth Atom
atoms = record { width = 6; read = atom_at; words = atom_words }

abbrev pub constraints : Fifth Constraint
constraints = record { width = 3; read = constraint_at; words = constraint_words }

module _ {C : Type 0} where
  -- table 3: the first name and the first ask run on
  abbrev pub alternative_row : ℕ × ℕ → Alternative C → List ℕ
  alternative_row s a = s.0 ∷ length a.names ∷ s.1 ∷ length a.asks ∷ []

  abbrev pub alternative_next : ℕ × ℕ → Alternative C → ℕ × ℕ
  alternative_next s a = (s.0 + length a.names, s.1 + length a.asks)

  abbrev pub alternative_rows : ℕ × ℕ → List (Alternative C) → List ℕ
  alternative_rows s alts = rows alternative_row alternative_next s alts

  -- table 2: the first alternative runs on
  abbrev pub rule_row : ℕ → Rule C → List ℕ
  rule_row k r = r.variable ∷ r.value ∷ k ∷ length r.alternatives ∷ []

  abbrev pub rule_next : ℕ → Rule C → ℕ
  rule_next k r = k + length r.alternatives

  abbrev pub rule_rows : ℕ → List (Rule C) → List ℕ
  rule_rows k rules = rows rule_row rule_next k rules

  abbrev pub alts_of : List (Rule C) → List (Alternative C)
  alts_of rs = flat_map (λ (r : Rule C). r.alternatives) rs

  abbrev pub names_of : List (Alternative C) → List Name
  names_of alts = flat_map (λ (a : Alternative C). a.names) alts

  abbrev pub asks_of : List (Alternative C) → List C
  asks_of alts = flat_map (λ (a : Alternative C). a.asks) alts

-- the whole book (edition e): tables 0 and 1 are given as words, with their counts
module _ {C : Type 0} (t5 : Fifth C) (e m : ℕ) (variables : List ℕ) (n : ℕ) (values : List ℕ) (rules : List (Rule C)) where
  abbrev pub tables : List ℕ
  tables =
      rule_rows 0 rules ++ (alternative_rows (0, 0) (alts_of rules) ++ (flat_map name_words (names_of (alts_of rules)) ++ flat_map t5.words (asks_of (alts_of rules))))

  abbrev pub header : List ℕ
  header =
      let o1 = 14 + m * 2 in
      let o2 = o1 + n * 3 in
      let o3 = o2 + length rules * 4 in
      let o4 = o3 + length (alts_of rules) * 4 in
      let o5 = o4 + length (names_of (alts_of rules)) * 2 in
      let end = o5 + length (asks_of (alts_of rules)) * t5.width in
      e ∷ end ∷ m ∷ 14 ∷ n ∷ o1 ∷ length rules ∷ o2 ∷ length (alts_of rules) ∷ o3 ∷ length (names_of (alts_of rules)) ∷ o4 ∷ length (asks_of (alts_of rules)) ∷ o5 ∷ []

  unfoldable pub book_of : List ℕ
  book_of = header ++ (variables ++ (values ++ tables))
