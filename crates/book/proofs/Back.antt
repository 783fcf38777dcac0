-- Words that say given rules are read back as those rules. Assumes nothing.
use mathlib.Core.Path.{◌≡◌, refl, sym, ap, ◌∙◌}
use Prim.Native.Nat.{ℕ, ◌+◌, ◌*◌}
use native.Mathlib.Nat.{add-zero, mul-zero}
use mathlib.Core.List.{List, [], ◌∷◌, ◌++◌, flat_map}
use lib.ListN.{length, get_or}
use lib.Seq.{get_or-drop}
use Rattle.words.specs.Runs.{run, Stands, rows}
use Rattle.words.proofs.Runs.{stands-first, stands_second, stands-whole, length_flat, length-rows, run_back, run_pieces}
use Rattle.words.specs.Words.{word}
use Rattle.layout.specs.Layout.{count, offset}
use Rattle.book.specs.Rules.{Name, Atom, Constraint, Alternative, Rule, Fifth, name_at, atom_at, constraint_at, alternative_at, rule_at, rules_of}
use Rattle.book.specs.Encode.{name_words, atom_words, constraint_words, atoms, constraints, alternative_row, alternative_next, alternative_rows, rule_row, rule_next, rule_rows, alts_of, names_of, asks_of, header, book_of}

-- a word of what stands
pub stood : {b : List ℕ} {at : ℕ} {ws : List ℕ} (s : Stands b at ws) (i : ℕ) → word b (at + i) ≡ get_or (ws ++ s.rest) i 0
stood {b} {at} s i = sym (get_or-drop at b i 0) ∙ ap (λ (l : List ℕ). get_or l i 0) s.here

pub stood_first : {b : List ℕ} {at : ℕ} {ws : List ℕ} (s : Stands b at ws) → word b at ≡ get_or (ws ++ s.rest) 0 0
stood_first {b} {at} s = ap (word b) (sym (add-zero at)) ∙ stood s 0

name_back : (b : List ℕ) (n : Name) (k : ℕ) → Stands b k (name_words n) → name_at b k ≡ n
unfolding name_at
name_back b n k s = λ i. record { variable = stood_first s i; value = stood s 1 i }

atom_back : (b : List ℕ) (a : Atom) (k : ℕ) → Stands b k (atom_words a) → atom_at b k ≡ a
unfolding atom_at
atom_back b a k s =
    λ i. record {
      left_kind = stood_first s i;
      left = stood s 1 i;
      right_kind = stood s 2 i;
      right = stood s 3 i;
      lower = stood s 4 i;
      upper = stood s 5 i;
    }

constraint_back : (b : List ℕ) (q : Constraint) (k : ℕ) → Stands b k (constraint_words q) → constraint_at b k ≡ q
unfolding constraint_at
constraint_back b q k s = λ i. record { left = stood_first s i; right = stood s 1 i; set = stood s 2 i }

-- what a kind of record of table 5 has to keep
pub record Kept {C : Type 0} (t5 : Fifth C) : Type 0 where
  pub size : (c : C) → length (t5.words c) ≡ t5.width
  pub back : (b : List ℕ) (c : C) (k : ℕ) → Stands b k (t5.words c) → t5.read b k ≡ c

pub atoms-kept : Kept atoms
atoms-kept = record { size = λ c. refl; back = atom_back }

pub constraints-kept : Kept constraints
constraints-kept = record { size = λ c. refl; back = constraint_back }

module _ {C : Type 0} (t5 : Fifth C) (b : List ℕ) where
  alts_back : (alts : List (Alternative C)) (k m n : ℕ) → Stands b k (alternative_rows (m, n) alts)
      → run (name_at b) 2 (length (names_of alts)) (offset b 4 + 2 * m) ≡ names_of alts
      → run (t5.read b) t5.width (length (asks_of alts)) (offset b 5 + t5.width * n) ≡ asks_of alts
      → run (alternative_at t5 b) 4 (length alts) k ≡ alts
  unfolding run rows alternative_at flat_map
  alts_back [] k m n s hn ha = refl
  alts_back (a ∷ alts) k m n s hn ha =
      let head : List ℕ = m ∷ length a.names ∷ n ∷ length a.asks ∷ [] in
      let row = stands-first head _ s in
      let pn = run_pieces (name_at b) 2 (offset b 4) m a.names (names_of alts) hn in
      let pa = run_pieces (t5.read b) t5.width (offset b 5) n a.asks (asks_of alts) ha in
      rw (
        stood_first row,
        stood row 1,
        stood row 2,
        stood row 3,
        pn.0,
        pa.0,
        alts_back alts (k + 4) _ _ (stands_second 4 head _ refl s) pn.1 pa.1,
      )

  rules_back : (rules : List (Rule C)) (k m : ℕ) → Stands b k (rule_rows m rules)
      → run (alternative_at t5 b) 4 (length (alts_of rules)) (offset b 3 + 4 * m) ≡ alts_of rules
      → run (rule_at t5 b) 4 (length rules) k ≡ rules
  unfolding run rows rule_at flat_map
  rules_back [] k m s h = refl
  rules_back (r ∷ rules) k m s h =
      let head : List ℕ = r.variable ∷ r.value ∷ m ∷ length r.alternatives ∷ [] in
      let row = stands-first head _ s in
      let p = run_pieces (alternative_at t5 b) 4 (offset b 3) m r.alternatives (alts_of rules) h in
      rw (
        stood_first row,
        stood row 1,
        stood row 2,
        stood row 3,
        p.0,
        rules_back rules (k + 4) _ (stands_second 4 head _ refl s) p.1,
      )

-- the words b say these rules
pub record Says {C : Type 0} (t5 : Fifth C) (b : List ℕ) (rules : List (Rule C)) : Type 0 where
  pub rows : count b 2 ≡ length rules
  pub table2 : Stands b (offset b 2) (rule_rows 0 rules)
  pub table3 : Stands b (offset b 3) (alternative_rows (0, 0) (alts_of rules))
  pub table4 : Stands b (offset b 4) (flat_map name_words (names_of (alts_of rules)))
  pub table5 : Stands b (offset b 5) (flat_map t5.words (asks_of (alts_of rules)))

module _ {C : Type 0} (t5 : Fifth C) (kept : Kept t5) where
  -- THE LAW: what is said is read
  pub says_back : (b : List ℕ) (rules : List (Rule C)) → Says t5 b rules → rules_of t5 b ≡ rules
  unfolding rules_of
  says_back b rules s =
      rw s.rows
      (rules_back t5 b rules (offset b 2) 0 s.table2
      (rw (mul-zero, add-zero)
      (alts_back t5 b (alts_of rules) (offset b 3) 0 0 s.table3
      (rw (mul-zero, add-zero) (run_back b 2 (name_at b) name_words (λ a. refl) (name_back b) (names_of (alts_of rules)) (offset b 4) s.table4))
      (rw (mul-zero, add-zero)
      (run_back b t5.width (t5.read b) t5.words kept.size (kept.back b) (asks_of (alts_of rules)) (offset b 5) s.table5)))))

  module _ (e m : ℕ) (variables : List ℕ) (n : ℕ) (values : List ℕ) (hm : length variables ≡ m * 2) (hn : length values ≡ n * 3) (rules : List (Rule C)) where
    pub book_says : Says t5 (book_of t5 e m variables n values rules) rules
    unfolding book_of
    book_says =
        let s1 = stands_second 14 (header t5 e m variables n values rules) _ refl (stands-whole (book_of t5 e m variables n values rules)) in
        let s2 = stands_second (n * 3) values _ hn (stands_second (m * 2) variables _ hm s1) in
        let s3 = stands_second (length rules * 4) (rule_rows 0 rules) _ (length-rows rule_row rule_next 4 (λ k r. refl) 0 rules) s2 in
        let s4 = stands_second (length (alts_of rules) * 4) (alternative_rows (0, 0) (alts_of rules)) _ (length-rows alternative_row alternative_next 4 (λ k r. refl) (0, 0) (alts_of rules)) s3 in
        let names : List ℕ = flat_map name_words (names_of (alts_of rules)) in
        let s5 = stands_second (length (names_of (alts_of rules)) * 2) names _ (length_flat 2 name_words (λ a. refl) (names_of (alts_of rules))) s4 in
        record {
          rows = refl;
          table2 = stands-first (rule_rows 0 rules) _ s2;
          table3 = stands-first (alternative_rows (0, 0) (alts_of rules)) _ s3;
          table4 = stands-first names _ s4;
          table5 = s5;
        }

    pub book_back : rules_of t5 (book_of t5 e m variables n values rules) ≡ rules
    book_back = says_back _ rules book_says
