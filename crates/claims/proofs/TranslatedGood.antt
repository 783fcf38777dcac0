-- The book that a sheet becomes is always a good book, so demand 3 holds for every sheet that the translator takes. Assumes nothing.
use mathlib.Core.Path.{◌≡◌, refl, sym, ap, ◌∙◌}
use mathlib.Core.List.{List, [], ◌∷◌, ◌++◌, map, flat_map}
use Prim.Native.Nat.{ℕ, zero, suc, ◌+◌, ◌*◌, ◌≤◌, ◌<◌}
use native.Mathlib.Nat.{add-zero}
use native.Mathlib.Omega.{arith}
use lib.Dec.{ltb}
use lib.ListN.{length, get_or, take, drop, length-append, length-map}
use lib.Seq.{take-append_seam}
use borrow.Author.Tests.{eq-eqb}
use Rattle.answers.specs.Numbers.{no_fault}
use Rattle.words.specs.Words.{word}
use Rattle.words.specs.Lists.{All}
use Rattle.words.specs.Runs.{Stands, rows, before}
use Rattle.words.proofs.Runs.{rows_at, before-next, length-rows, length_flat, length_run}
use Rattle.layout.specs.Layout.{fifth_width, fewest, most, width, count, offset, begins, record_at, field, ends, starts, owner}
use Rattle.book.specs.Rules.{Atom, Constraint, Alternative, Rule, atom_at, rule_at, rules_of}
use Rattle.book.specs.Encode.{atoms, constraints, name_words, atom_words, rule_row, rule_next, alternative_row, alternative_next, alts_of, names_of, asks_of, book_of}
use Rattle.book.specs.Fault.{book_fault}
use Rattle.book.proofs.Good.{good, good_back, no_number}
use Rattle.book.specs.Sound.{RangeSound, Exist, VariableSound, ValueSound, HeaderSound, Sound}
use Rattle.layout.proofs.Bounds.{tables}
use Rattle.book.proofs.Sound.{sound as sound_of, sound_back}
use Rattle.book.proofs.Back.{stood}
use Rattle.book.proofs.Inside.{Ranges, first_word, starts-next, ends_inside, owner_owns, value_ranges}
use Rattle.verdict.specs.Judged.{no_rule, judged, judged_sheet}
use Rattle.listing.specs.Expand.{translate}
use Rattle.translator.specs.Translation.{rules_for, translated, translation, room_after}
use Rattle.claims.proofs.Translated.{variables_size, values_size, variable_kept, value_kept, says, read_back, translated-judged}
use Rattle.claims.specs.Decoded.{RuleFine, ConstraintFine, RecordsFine}
use Rattle.claims.proofs.Decoded.{rules_fine, sheet_rules}
use Rattle.claims.specs.TranslatedRules.{AtomFine}
use Rattle.claims.proofs.TranslatedRules.{translate_fine}
use Rattle.claims.proofs.Laws.{least_agree}
use Rattle.claims.specs.Taken.{Within}
use Rattle.claims.proofs.Taken.{taken, done-answer}

abbrev no_alternative : Alternative Atom
no_alternative = record { names = []; asks = [] }

-- ---- ranges that were written one behind another follow each other and use all of the next table

module _ {A S X : Type 0} (row : S → A → List ℕ) (step : S → A → S) (at : S → ℕ) (part : A → List X)
    (adds : (s : S) (x : A) → at (step s x) ≡ at s + length (part x)) where
  -- the last one ends where all parts together end
  before-all : (s : S) (xs : List A) → at (before row step s xs (length xs)) ≡ at s + length (flat_map part xs)
  unfolding before flat_map
  before-all s [] = sym (add-zero (at s))
  before-all s (x ∷ xs) = before-all (step s x) xs ∙ omega (arith, adds s x, length-append (part x) (flat_map part xs))

  module _ (b : List ℕ) (t j into : ℕ) (size : (s : S) (x : A) → length (row s x) ≡ width 1 t)
      (says : (s : S) (x : A) (rest : List ℕ) → (get_or (row s x ++ rest) j 0 ≡ at s) × (get_or (row s x ++ rest) (j + 1) 0 ≡ length (part x)))
      (d : A) (s : S) (xs : List A) (first : at s ≡ 0) (many : count b t ≡ length xs) (next : count b into ≡ length (flat_map part xs))
      (there : Stands b (offset b t) (rows row step s xs)) where
    -- record i starts where those before it end, and ends where the next starts
    record_is : (i : ℕ) → i < length xs
        → (field 1 b t i j ≡ at (before row step s xs i)) × (ends 1 b t j i ≡ at (before row step s xs (suc i)))
    record_is i l =
        let st = rows_at row step b (width 1 t) size d s xs (offset b t) i there l in
        let said = says (before row step s xs i) (get_or xs i d) st.rest in
        let from = stood st j ∙ said.0 in
        let many : word b (offset b t + i * width 1 t + (j + 1)) ≡ length (part (get_or xs i d)) = stood st (j + 1) ∙ said.1 in
        (from, rw (from, many, before-next row step d s xs i l) (sym (adds _ _)))

    -- so the expected start is the running one
    starts_are : (i : ℕ) → i ≤ length xs → starts 1 b t j i ≡ at (before row step s xs i)
    unfolding starts before
    starts_are zero l = sym first
    starts_are (suc i) l = starts-next 1 b t j i ∙ (record_is i l).1

    pub ranges : Ranges 1 b t j into
    ranges =
        record {
          follows = λ i l. (record_is i (omega arith)).0 ∙ sym (starts_are i (omega arith));
          used = rw many (starts_are (length xs) (omega arith)) ∙ before-all s xs ∙ omega arith;
        }

-- such a range is sound, where its number is
pub range_sound : {b : List ℕ} {t j into : ℕ} → Ranges 1 b t j into → {lo hi : ℕ} (i : ℕ) → i < count b t → lo ≤ field 1 b t i (j + 1)
    → field 1 b t i (j + 1) ≤ hi → RangeSound 1 b (record { table = t; word = j; least = lo; most = hi; into = into }) i
range_sound r i l some few = record { follows = r.follows i l; some = some; few = few; inside = ends_inside r i l }

-- a sheet without the faults 1 to 4 is sound
sound_sheet : (s : List ℕ) → (book_fault 2 s).number ≡ 0 → Sound 2 s
sound_sheet s h = sound_of 2 s (good 2 s (no_number 2 s h))

module _ (s : List ℕ) (sound : Sound 2 s) where
  -- ---- the header: each table begins where the one before ends, and the last ends at the length

  all_words : word (translated s) 1 ≡ length (translated s)
  unfolding translated book_of
  all_words =
      let m = variables_size s sound in
      let n = values_size s sound in
      let alts : List (Alternative Atom) = alts_of (rules_for s) in
      let w2 = length-rows rule_row rule_next 4 (λ k r. refl) 0 (rules_for s) in
      let w3 = length-rows alternative_row alternative_next 4 (λ k a. refl) (0, 0) alts in
      let w4 = length_flat 2 name_words (λ n. refl) (names_of alts) in
      let w5 = length_flat 6 atom_words (λ a. refl) (asks_of alts) in
      simp length-append (omega arith)

  -- ---- the ranges

  rule_ranges : Ranges 1 (translated s) 2 2 3
  unfolding translated book_of
  rule_ranges =
      ranges rule_row rule_next (λ k. k) (λ (r : Rule Atom). r.alternatives) (λ k r. refl) (translated s) 2 2 3 (λ k r. refl) (λ k r rest. (refl, refl))
      no_rule 0 (rules_for s) refl refl refl (says s sound).table2

  name_ranges : Ranges 1 (translated s) 3 0 4
  unfolding translated book_of
  name_ranges =
      ranges alternative_row alternative_next (λ k. k.0) (λ (a : Alternative Atom). a.names) (λ k a. refl) (translated s) 3 0 4 (λ k a. refl) (λ k a rest. (refl, refl))
      no_alternative (0, 0) (alts_of (rules_for s)) refl refl refl (says s sound).table3

  ask_ranges : Ranges 1 (translated s) 3 2 5
  unfolding translated book_of
  ask_ranges =
      ranges alternative_row alternative_next (λ k. k.1) (λ (a : Alternative Atom). a.asks) (λ k a. refl) (translated s) 3 2 5 (λ k a. refl) (λ k a rest. (refl, refl))
      no_alternative (0, 0) (alts_of (rules_for s)) refl refl refl (says s sound).table3

  -- ---- variables and values are the sheet's

  exist : (v x : ℕ) → Exist 2 s v x → Exist 1 (translated s) v x
  unfolding translated book_of
  exist v x h = record { variable = h.variable; value = rw (variable_kept s sound v 1 h.variable (omega arith)) h.value }

  ends-kept : (v : ℕ) → v < count s 0 → ends 1 (translated s) 0 0 v ≡ ends 2 s 0 0 v
  ends-kept v l = rw (variable_kept s sound v 0 l (omega arith), variable_kept s sound v 1 l (omega arith))

  starts-kept : (v : ℕ) → v ≤ count s 0 → starts 1 (translated s) 0 0 v ≡ starts 2 s 0 0 v
  unfolding starts
  starts-kept zero l = refl
  starts-kept (suc v) l = starts-next 1 (translated s) 0 0 v ∙ ends-kept v l ∙ sym (starts-next 2 s 0 0 v)

  variable_sound : (v : ℕ) → v < count s 0 → VariableSound 1 (translated s) v
  unfolding translated book_of
  variable_sound v l =
      let h = sound.variables v l in
      let first = variable_kept s sound v 0 l (omega arith) in
      let many = variable_kept s sound v 1 l (omega arith) in
      record {
        follows = first ∙ h.follows ∙ sym (starts-kept v (omega arith));
        some = rw many h.some;
        few = rw many h.few;
        inside = rw (ends-kept v l) h.inside;
      }

  owner-kept : (i : ℕ) → owner 1 (translated s) 0 0 i ≡ owner 2 s 0 0 i
  unfolding owner translated book_of
  owner-kept i = least_agree (count s 0) _ _ (λ v l clear. ap (λ (n : ℕ). ltb i n) (ends-kept v l))

  value_sound : (i : ℕ) → i < count s 1 → ValueSound 1 (translated s) i
  value_sound i l =
      let h = sound.values i l in
      let v : ℕ = owner 2 s 0 0 i in
      let first : word (translated s) (record_at 1 (translated s) 1 i) ≡ word s (record_at 2 s 1 i) =
      sym (first_word 1 (translated s) 1 i) ∙ value_kept s sound i 0 l (omega arith) ∙ first_word 2 s 1 i in
      let there = variable_kept s sound v 1 (owner_owns (value_ranges sound) i l).there (omega arith) in
      record {
        durations = rw (first, value_kept s sound i 1 l (omega arith)) h.durations;
        successors = rw (value_kept s sound i 2 l (omega arith), owner-kept i, there) h.successors;
      }

  -- ---- the whole

  rules_kept : length (rules_for s) ≡ count s 2
  unfolding rules_for rules_of
  rules_kept = length-map (rules_of constraints s) translate ∙ length_run (rule_at constraints s) 4 (count s 2) (offset s 2)

  header_sound : Within s → HeaderSound 1 (translated s)
  unfolding translated book_of begins
  header_sound w =
      let h = sound.header in
      let z = w.sizes in
      record {
        edition = refl;
        total = all_words;
        some =
            tables (λ t. fewest t ≤ count (translated s) t) (h.some 0 (omega arith)) (h.some 1 (omega arith))
            (omega arith) (omega arith) (omega arith) (omega arith);
        few =
            tables (λ t. count (translated s) t ≤ most t) (h.few 0 (omega arith)) (h.few 1 (omega arith))
            (rw rules_kept (h.few 2 (omega arith))) z.alternatives z.names z.atoms;
        offsets = tables (λ t. offset (translated s) t ≡ begins 1 (translated s) t) refl refl refl refl refl refl;
      }

  -- its rules are as they must be, and so are the records of its tables
  rules_all : (rules : List (Rule Constraint)) → All (RuleFine ConstraintFine 2 s) rules → All (λ r. length r.alternatives ≤ 64) (map translate rules)
      → All (RuleFine AtomFine 1 (translated s)) (map translate rules)
  rules_all [] h few = tt
  rules_all (r ∷ rules) h few = (translate_fine s (translated s) exist r h.0 few.0, rules_all rules h.1 few.1)

  records_fine : Within s → RecordsFine atoms AtomFine 1 (translated s)
  unfolding rules_for
  records_fine w =
      (rules_fine atoms AtomFine 1 (translated s) rule_ranges name_ranges ask_ranges).0
      (rw (read_back s sound) (rules_all (rules_of constraints s) (sheet_rules sound) w.rules))

  translated_sound : Within s → Sound 1 (translated s)
  unfolding translated book_of atom_at fifth_width
  translated_sound w =
      let f = records_fine w in
      record {
        long = omega arith;
        short = w.sizes.words;
        header = header_sound w;
        whole = all_words;
        variables = variable_sound;
        values = value_sound;
        rules = λ i l. record { trigger = f.trigger i l; alternatives = range_sound rule_ranges i l (f.some i l) (f.few i l) };
        alternatives = λ i l.
            record {
              names = range_sound name_ranges i l (omega arith) (f.few_names i l);
              asks = range_sound ask_ranges i l (omega arith) (f.few_asks i l);
            };
        names = f.names;
        atoms = λ h i l. let a = f.asks i l in record { left = a.left; right = a.right; bounds = a.bounds; jobs = a.jobs };
        constraints = λ h. absurd (omega arith);
        values_used = starts-kept (count s 0) (omega arith) ∙ sound.values_used;
        alternatives_used = rule_ranges.used;
        names_used = name_ranges.used;
        asks_used = ask_ranges.used;
      }

-- ---- THE THEOREMS

-- a translated book is always a good book
pub translated_good : (s : List ℕ) (room : ℕ) → (translation s room).number ≡ 0 → book_fault 1 (translated s) ≡ no_fault
translated_good s room h =
    let t = (taken s room).0 h in
    good_back 1 (translated s) (sound_back 1 (translated s) (translated_sound s (sound_sheet s t.0) t.1))

-- DEMAND 3: for every sheet that the translator takes and every plan, judging by the translated book gives the same answer, place and count
-- as reading the sheet directly
pub demand_3 : (s p : List ℕ) (room : ℕ) → (translation s room).number ≡ 0 → judged (translated s) p ≡ judged_sheet s p
demand_3 s p room h = translated-judged s (sound_sheet s ((taken s room).0 h).0) (translated_good s room h) p

-- the words written are the book that the sheet becomes: "0 done (a words written ..)"
pub written_book : (s room : List ℕ) → (translation s (length room)).number ≡ 0 → take (translation s (length room)).a (room_after s room) ≡ translated s
unfolding room_after
written_book s room h = rw (eq-eqb _ _ h, done-answer s (length room) h) (take-append_seam (translated s) (drop (length (translated s)) room))

-- so the same holds of the words that stand in the room afterwards
pub written-judged : (s room p : List ℕ) → (translation s (length room)).number ≡ 0
    → judged (take (translation s (length room)).a (room_after s room)) p ≡ judged_sheet s p
written-judged s room p h = rw (written_book s room h) (demand_3 s p (length room) h)
