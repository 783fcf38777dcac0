-- An empty list changes nothing: a sound book written anew with its own rules is that book, word by word. Assumes nothing.
use mathlib.Core.Path.{◌≡◌, refl, sym, ap, ◌∙◌}
use mathlib.Core.Bool.{Bool, true, false, cond}
use mathlib.Core.List.{List, [], ◌∷◌, ◌++◌, flat_map, append-nil}
use Prim.Native.Nat.{ℕ, zero, suc, ◌+◌, ◌*◌, ◌≤◌, ◌<◌}
use native.Mathlib.Nat.{mul-zero, mul-suc, zero-mul, suc-mul}
use native.Mathlib.Numerals.{unary_clauses}
use native.Mathlib.Omega.{arith}
use lib.Dec.{eqb}
use lib.ListN.{length, take, drop}
use lib.Seq.{drop-cons, take-length, drop-length}
use borrow.Author.Tests.{eqb-true}
use Rattle.words.specs.Words.{word}
use Rattle.words.specs.Lists.{any}
use Rattle.words.specs.Runs.{run, rows}
use Rattle.words.proofs.Runs.{length_run}
use Rattle.layout.specs.Layout.{fifth_width, count, offset, starts}
use Rattle.book.specs.Rules.{Atom, Alternative, name_at, atom_at, alternative_at, rule_at, rules_of}
use Rattle.book.specs.Encode.{atoms, name_words, atom_words, rule_row, rule_next, rule_rows, alternative_row, alternative_next, alternative_rows, alts_of, names_of, asks_of, header, book_of}
use Rattle.book.specs.Sound.{Sound}
use Rattle.book.proofs.Inside.{offsets, starts-next, alternative_ranges, name_ranges, ask_ranges}
use Rattle.claims.proofs.FaultsOfTables.{book_none}
use Rattle.writing.specs.Book.{table_words}
use Rattle.closing.specs.Rebuilt.{rebuilt}
use Rattle.closing.specs.Left.{words_at}
use Rattle.closing.proofs.Joined.{run_join, counts, alternatives_all, names-all, asks-all}
use Rattle.closing.proofs.Whole.{flat_run, name_one, atom_one}
use Rattle.removal.specs.Removed.{kept, removed_book, in_front}
use Rattle.removal.specs.Removal.{removal, book_after, desks_after}
use Rattle.removal_claims.proofs.Answers.{answer-0}

-- nothing is listed: all are kept
kept_all_of : {A : Type 0} (i : ℕ) (xs : List A) → kept [] i xs ≡ xs
unfolding kept any
kept_all_of i [] = refl
kept_all_of i (x ∷ xs) = ap (λ (l : List _). x ∷ l) (kept_all_of (suc i) xs)

module _ (b : List ℕ) where
  -- words that stand one behind the other
  join : (k m n o : ℕ) → o ≡ k + m → words_at b k m ++ words_at b o n ≡ words_at b k (m + n)
  unfolding words_at
  join k m n o e =
      let at : o ≡ k + 1 * m = omega arith in
      rw at (run_join (word b) 1 m n k)

  -- a part that lies inside, and the whole
  part-is : (n k : ℕ) → k + n ≤ length b → take n (drop k b) ≡ words_at b k n
  unfolding words_at run
  part-is zero k h = refl
  part-is (suc n) k h =
      let next : suc k ≡ k + 1 = omega arith in
      rw (drop-cons b k 0 (omega arith), next, part-is n (k + 1) (omega arith))

  whole_is : words_at b 0 (length b) ≡ b
  whole_is = sym (part-is (length b) 0 (omega arith)) ∙ take-length b

  -- rows that stand there, each with the state that the one before leads to
  module _ {A S : Type 0} (row : S → A → List ℕ) (step : S → A → S) (rec : ℕ → A) (w o n : ℕ) (state : ℕ → S)
      (one : (i : ℕ) → i < n → row (state i) (rec (o + i * w)) ≡ words_at b (o + i * w) w)
      (next : (i : ℕ) → i < n → step (state i) (rec (o + i * w)) ≡ state (suc i)) where
    rows-from : (m i : ℕ) → i + m ≡ n → rows row step (state i) (run rec w m (o + i * w)) ≡ words_at b (o + i * w) (w * m)
    unfolding rows run words_at
    rows-from zero i e = rw mul-zero refl
    rows-from (suc m) i e =
        let place : o + i * w + w ≡ o + suc i * w = omega (arith, suc-mul i w) in
        let size : w + w * m ≡ w * suc m = omega (arith, mul-suc w m) in
        rw (one i (omega arith), next i (omega arith), place, rows-from m (suc i) (omega arith))
        (join (o + i * w) w (w * m) (o + suc i * w) (sym place) ∙ ap (words_at b (o + i * w)) size)

    rows-stand : (s : S) (at : ℕ) → s ≡ state 0 → at ≡ o → rows row step s (run rec w n at) ≡ words_at b o (w * n)
    rows-stand s at hs ha =
        let first : o + 0 * w ≡ o = omega (arith, zero-mul w) in
        rw (hs, ha) (rw first at (rows-from n 0 (omega arith)))

module _ (b : List ℕ) (sound : Sound 1 b) where
  -- table 2: a rule's first alternative is where the one before ends
  rule_rows_lem : rule_rows 0 (rules_of atoms b) ≡ words_at b (offset b 2) (4 * count b 2)
  unfolding rules_of rule_at words_at run starts
  rule_rows_lem = rows-stand b rule_row rule_next (rule_at atoms b) 4 (offset b 2) (count b 2) (starts 1 b 2 2) one next 0 (offset b 2) refl refl
    where
      one : (i : ℕ) → i < count b 2 → rule_row (starts 1 b 2 2 i) (rule_at atoms b (offset b 2 + i * 4)) ≡ words_at b (offset b 2 + i * 4) 4
      one i l = rw (← (alternative_ranges sound).follows i l, length_run) (simp unary_clauses)

      next : (i : ℕ) → i < count b 2 → rule_next (starts 1 b 2 2 i) (rule_at atoms b (offset b 2 + i * 4)) ≡ starts 1 b 2 2 (suc i)
      next i l = rw (length_run, starts-next 1 b 2 2 i, ← (alternative_ranges sound).follows i l)

  -- table 3: so are an alternative's first name and first atom
  alternative_rows_lem : alternative_rows (0, 0) (alts_of (rules_of atoms b)) ≡ words_at b (offset b 3) (4 * count b 3)
  unfolding alternative_at words_at run starts
  alternative_rows_lem =
      ap (alternative_rows (0, 0)) (alternatives_all sound)
      ∙ rows-stand b alternative_row alternative_next (alternative_at atoms b) 4 (offset b 3) (count b 3) state one next (0, 0) (offset b 3) refl refl
    where
      state : ℕ → ℕ × ℕ
      state i = (starts 1 b 3 0 i, starts 1 b 3 2 i)

      one : (i : ℕ) → i < count b 3 → alternative_row (state i) (alternative_at atoms b (offset b 3 + i * 4)) ≡ words_at b (offset b 3 + i * 4) 4
      one i l =
          rw (← (name_ranges sound).follows i l, ← (ask_ranges sound).follows i l, length_run (name_at b) 2, length_run (atom_at b) 6) (simp unary_clauses)

      next : (i : ℕ) → i < count b 3 → alternative_next (state i) (alternative_at atoms b (offset b 3 + i * 4)) ≡ state (suc i)
      next i l =
          rw (
            length_run (name_at b) 2,
            length_run (atom_at b) 6,
            starts-next 1 b 3 0 i,
            starts-next 1 b 3 2 i,
            ← (name_ranges sound).follows i l,
            ← (ask_ranges sound).follows i l,
          )

  name_words_lem : flat_map name_words (names_of (alts_of (rules_of atoms b))) ≡ words_at b (offset b 4) (2 * count b 4)
  name_words_lem = ap (flat_map name_words) (names-all sound) ∙ flat_run b (name_at b) name_words 2 (name_one b []) (count b 4) (offset b 4)

  atom_words_lem : flat_map atom_words (asks_of (alts_of (rules_of atoms b))) ≡ words_at b (offset b 5) (6 * count b 5)
  atom_words_lem = ap (flat_map atom_words) (asks-all sound) ∙ flat_run b (atom_at b) atom_words 6 (atom_one b []) (count b 5) (offset b 5)

  header-words : header atoms 1 (count b 0) (table_words 1 b 0) (count b 1) (table_words 1 b 1) (rules_of atoms b) ≡ words_at b 0 14
  unfolding words_at run fifth_width
  header-words =
      let h = sound.header in
      let o = offsets sound in
      let c = counts sound in
      rw (
        c.rules,
        c.alternatives,
        c.names,
        c.asks,
        h.edition,
        h.total,
        o.all,
        o.variables,
        o.values,
        o.rules,
        o.alternatives,
        o.names,
        o.asks,
      )

  -- THE LAW: written anew with its own rules it is the same
  pub rebuilt-same : rebuilt b (rules_of atoms b) ≡ b
  unfolding rebuilt book_of fifth_width
  rebuilt-same =
      let o = offsets sound in
      let W : ℕ → ℕ → List ℕ = words_at b in
      let t0 : table_words 1 b 0 ≡ W (offset b 0) (count b 0 * 2) = part-is b (count b 0 * 2) (offset b 0) (omega arith) in
      let t1 : table_words 1 b 1 ≡ W (offset b 1) (count b 1 * 3) = part-is b (count b 1 * 3) (offset b 1) (omega arith) in
      let n4 : ℕ = 2 * count b 4 + 6 * count b 5 in
      let n3 : ℕ = 4 * count b 3 + n4 in
      let n2 : ℕ = 4 * count b 2 + n3 in
      let n1 : ℕ = count b 1 * 3 + n2 in
      let n0 : ℕ = count b 0 * 2 + n1 in
      let all : 14 + n0 ≡ length b = omega arith in
      let al : List (Alternative Atom) = alts_of (rules_of atoms b) in
      let rest : List ℕ = table_words 1 b 0 ++ (table_words 1 b 1 ++ (rule_rows 0 (rules_of atoms b)
      ++ (alternative_rows (0, 0) al ++ (flat_map name_words (names_of al) ++ flat_map atom_words (asks_of al))))) in
      let tables : rest ≡ W (offset b 0) n0 =
      rw (
        t0,
        t1,
        rule_rows_lem,
        alternative_rows_lem,
        name_words_lem,
        atom_words_lem,
        join b (offset b 4) (2 * count b 4) (6 * count b 5) (offset b 5) (omega arith),
        join b (offset b 3) (4 * count b 3) n4 (offset b 4) (omega arith),
        join b (offset b 2) (4 * count b 2) n3 (offset b 3) (omega arith),
        join b (offset b 1) (count b 1 * 3) n2 (offset b 2) (omega arith),
        join b (offset b 0) (count b 0 * 2) n1 (offset b 1) (omega arith),
      ) in
      ap (λ (h : List ℕ). h ++ rest) header-words ∙ ap (λ (l : List ℕ). W 0 14 ++ l) tables
      ∙ join b 0 14 n0 (offset b 0) (omega arith) ∙ ap (W 0) all ∙ whole_is b

-- ---- THE CLAIM: an empty list changes nothing, whatever is lent

-- a sound book written anew with the rules that an empty list leaves is that book
all_written : (b : List ℕ) → Sound 1 b → rebuilt b (kept [] 0 (rules_of atoms b)) ≡ b
all_written b sound = ap (rebuilt b) (kept_all_of 0 (rules_of atoms b)) ∙ rebuilt-same b sound

pub nothing_removed : (b : List ℕ) → Sound 1 b → removed_book b [] ≡ b
unfolding removed_book
nothing_removed b sound = all_written b sound

-- all of l in front of l
front_same : (l : List ℕ) → in_front l l ≡ l
unfolding in_front
front_same l = rw drop-length (append-nil l)

pub nothing_listed : (b d : List ℕ) → (book_after b d [] ≡ b) × (desks_after b d [] ≡ d)
unfolding book_after desks_after removed_book
nothing_listed b d = by (eqb (removal b d []).number 0) refl
  where
    by : (t : Bool) → eqb (removal b d []).number 0 ≡ t → (cond t (in_front (removed_book b []) b) b ≡ b) × (cond t (in_front (kept [] 0 d) d) d ≡ d)
    by true e =
        let sound = (book_none 1 b).0 ((answer-0 b d []).0 (eqb-true _ _ e)).0 in
        (rw (all_written b sound) (front_same b), rw (kept_all_of 0 d) (front_same d))
    by false e = (refl, refl)
