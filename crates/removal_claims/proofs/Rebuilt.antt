-- A book written anew with given rules (`rebuilt`): its variables and values are those of the book, its rules are read back, and it is sound where
-- its rules are as they must be. Assumes nothing.
use mathlib.Core.Path.{◌≡◌, refl, sym, ap, ◌∙◌}
use mathlib.Core.List.{List, [], ◌++◌, append_assoc}
use Prim.Native.Nat.{ℕ, zero, suc, ◌+◌, ◌*◌, ◌≤◌, ◌<◌}
use native.Mathlib.Omega.{arith}
use lib.Dec.{ltb}
use lib.ListN.{length, get_or, take, drop, length-append, length-drop, get_or-append}
use lib.Seq.{length-take-le, get_or-append-add, take-add, drop-drop, get_or-take, get_or-drop}
use Rattle.words.specs.Words.{word}
use Rattle.words.specs.Lists.{All}
use Rattle.words.proofs.Runs.{length-rows, length_flat}
use Rattle.layout.specs.Layout.{fifth_width, fewest, most, count, offset, begins, record_at, field, ends, starts, owner}
use Rattle.layout.proofs.Bounds.{tables}
use Rattle.book.specs.Rules.{Atom, Alternative, Rule, atom_at, rules_of}
use Rattle.book.specs.Encode.{atoms, header, name_words, atom_words, rule_row, rule_next, alternative_row, alternative_next, alts_of, names_of, asks_of, book_of}
use Rattle.book.specs.Encode as encode
use Rattle.book.specs.Sound.{Exist, VariableSound, ValueSound, HeaderSound, Sound}
use Rattle.book.proofs.Back.{Says, atoms-kept, says_back, book_says}
use Rattle.book.proofs.Inside.{Ranges, offsets, first_word, starts-next, owner_owns, value_ranges}
use Rattle.verdict.specs.Judged.{no_rule}
use Rattle.writing.specs.Book.{table_words}
use Rattle.claims.proofs.Laws.{least_agree}
use Rattle.claims.specs.Decoded.{RuleFine}
use Rattle.claims.proofs.Decoded.{rules_fine}
use Rattle.claims.specs.TranslatedRules.{AtomFine}
use Rattle.claims.proofs.TranslatedGood.{ranges, range_sound}
use Rattle.closing.specs.Rebuilt.{rebuilt}

abbrev no_alternative : Alternative Atom
no_alternative = record { names = []; asks = [] }

module _ (b : List ℕ) (sound : Sound 1 b) (rules : List (Rule Atom)) where
  -- ---- the words of the tables 0 and 1 are the book's

  pub variables_size : length (table_words 1 b 0) ≡ count b 0 * 2
  variables_size = let o = offsets sound in length-take-le _ (drop (offset b 0) b) (simp length-drop (omega arith))

  pub values_size : length (table_words 1 b 1) ≡ count b 1 * 3
  values_size = let o = offsets sound in length-take-le _ (drop (offset b 1) b) (simp length-drop (omega arith))

  together : table_words 1 b 0 ++ table_words 1 b 1 ≡ take (count b 0 * 2 + count b 1 * 3) (drop 14 b)
  together =
      let o = offsets sound in
      rw (o.variables, o.values, take-add (count b 0 * 2) (count b 1 * 3) (drop 14 b), drop-drop (count b 0 * 2) 14 b)

  pub as_stands : (i : ℕ) → i < count b 0 * 2 + count b 1 * 3 → word (rebuilt b rules) (14 + i) ≡ word b (14 + i)
  unfolding rebuilt book_of
  as_stands i l =
      let o = offsets sound in
      let m : ℕ = count b 0 in
      let n : ℕ = count b 1 in
      let vs : List ℕ = table_words 1 b 0 in
      let xs : List ℕ = table_words 1 b 1 in
      let rest : List ℕ = encode.tables atoms 1 m vs n xs rules in
      let ws : List ℕ = take (m * 2 + n * 3) (drop 14 b) in
      let long : i < length ws = rw (length-take-le (m * 2 + n * 3) (drop 14 b) (simp length-drop (omega arith))) l in
      get_or-append-add (header atoms 1 m vs n xs rules) (vs ++ (xs ++ rest)) i 0
      ∙ ap (λ (l : List ℕ). get_or l i 0) (sym (append_assoc vs xs rest) ∙ ap (λ (l : List ℕ). l ++ rest) together)
      ∙ get_or-append ws rest 0 i long
      ∙ get_or-take (m * 2 + n * 3) (drop 14 b) i 0 l
      ∙ get_or-drop 14 b i 0

  -- so the records of variables and values are
  pub variable_kept : (v j : ℕ) → v < count b 0 → j < 2 → field 1 (rebuilt b rules) 0 v j ≡ field 1 b 0 v j
  unfolding rebuilt book_of
  variable_kept v j l k =
      let o = offsets sound in
      let here : offset b 0 + v * 2 + j ≡ 14 + (v * 2 + j) = omega arith in
      let there : 14 + v * 2 + j ≡ 14 + (v * 2 + j) = omega arith in
      rw (here, there) (as_stands (v * 2 + j) (omega arith))

  pub value_kept : (i j : ℕ) → i < count b 1 → j < 3 → field 1 (rebuilt b rules) 1 i j ≡ field 1 b 1 i j
  unfolding rebuilt book_of
  value_kept i j l k =
      let o = offsets sound in
      let here : offset b 1 + i * 3 + j ≡ 14 + (count b 0 * 2 + i * 3 + j) = omega arith in
      let there : 14 + count b 0 * 2 + i * 3 + j ≡ 14 + (count b 0 * 2 + i * 3 + j) = omega arith in
      rw (here, there) (as_stands (count b 0 * 2 + i * 3 + j) (omega arith))

  -- ---- its rules are read back

  pub says : Says atoms (rebuilt b rules) rules
  unfolding rebuilt
  says = book_says atoms atoms-kept 1 (count b 0) _ (count b 1) _ variables_size values_size rules

  pub read_back : rules_of atoms (rebuilt b rules) ≡ rules
  read_back = says_back atoms atoms-kept (rebuilt b rules) rules says

  -- ---- the header: each table begins where the one before ends, and the last ends at the length

  all_words : word (rebuilt b rules) 1 ≡ length (rebuilt b rules)
  unfolding rebuilt book_of
  all_words =
      let m = variables_size in
      let n = values_size in
      let alts : List (Alternative Atom) = alts_of rules in
      let w2 = length-rows rule_row rule_next 4 (λ k r. refl) 0 rules in
      let w3 = length-rows alternative_row alternative_next 4 (λ k a. refl) (0, 0) alts in
      let w4 = length_flat 2 name_words (λ n. refl) (names_of alts) in
      let w5 = length_flat 6 atom_words (λ a. refl) (asks_of alts) in
      simp length-append (omega arith)

  -- ---- the ranges

  rule_ranges : Ranges 1 (rebuilt b rules) 2 2 3
  unfolding rebuilt book_of
  rule_ranges =
      ranges rule_row rule_next (λ k. k) (λ (r : Rule Atom). r.alternatives) (λ k r. refl)
      (rebuilt b rules) 2 2 3 (λ k r. refl) (λ k r rest. (refl, refl))
      no_rule 0 rules refl refl refl says.table2

  name_ranges : Ranges 1 (rebuilt b rules) 3 0 4
  unfolding rebuilt book_of
  name_ranges =
      ranges alternative_row alternative_next (λ k. k.0) (λ (a : Alternative Atom). a.names) (λ k a. refl)
      (rebuilt b rules) 3 0 4 (λ k a. refl) (λ k a rest. (refl, refl))
      no_alternative (0, 0) (alts_of rules) refl refl refl says.table3

  ask_ranges : Ranges 1 (rebuilt b rules) 3 2 5
  unfolding rebuilt book_of
  ask_ranges =
      ranges alternative_row alternative_next (λ k. k.1) (λ (a : Alternative Atom). a.asks) (λ k a. refl)
      (rebuilt b rules) 3 2 5 (λ k a. refl) (λ k a rest. (refl, refl))
      no_alternative (0, 0) (alts_of rules) refl refl refl says.table3

  -- ---- variables and values are the book's

  pub exist : (v x : ℕ) → Exist 1 b v x → Exist 1 (rebuilt b rules) v x
  unfolding rebuilt book_of
  exist v x h = record { variable = h.variable; value = rw (variable_kept v 1 h.variable (omega arith)) h.value }

  ends-kept : (v : ℕ) → v < count b 0 → ends 1 (rebuilt b rules) 0 0 v ≡ ends 1 b 0 0 v
  ends-kept v l = rw (variable_kept v 0 l (omega arith), variable_kept v 1 l (omega arith))

  starts-kept : (v : ℕ) → v ≤ count b 0 → starts 1 (rebuilt b rules) 0 0 v ≡ starts 1 b 0 0 v
  unfolding starts
  starts-kept zero l = refl
  starts-kept (suc v) l = starts-next 1 (rebuilt b rules) 0 0 v ∙ ends-kept v l ∙ sym (starts-next 1 b 0 0 v)

  variable_sound : (v : ℕ) → v < count b 0 → VariableSound 1 (rebuilt b rules) v
  unfolding rebuilt book_of
  variable_sound v l =
      let h = sound.variables v l in
      let first = variable_kept v 0 l (omega arith) in
      let many = variable_kept v 1 l (omega arith) in
      record {
        follows = first ∙ h.follows ∙ sym (starts-kept v (omega arith));
        some = rw many h.some;
        few = rw many h.few;
        inside = rw (ends-kept v l) h.inside;
      }

  owner-kept : (i : ℕ) → owner 1 (rebuilt b rules) 0 0 i ≡ owner 1 b 0 0 i
  unfolding owner rebuilt book_of
  owner-kept i = least_agree (count b 0) _ _ (λ v l clear. ap (λ (n : ℕ). ltb i n) (ends-kept v l))

  value_sound : (i : ℕ) → i < count b 1 → ValueSound 1 (rebuilt b rules) i
  value_sound i l =
      let h = sound.values i l in
      let v : ℕ = owner 1 b 0 0 i in
      let first : word (rebuilt b rules) (record_at 1 (rebuilt b rules) 1 i) ≡ word b (record_at 1 b 1 i) =
      sym (first_word 1 (rebuilt b rules) 1 i) ∙ value_kept i 0 l (omega arith) ∙ first_word 1 b 1 i in
      let there = variable_kept v 1 (owner_owns (value_ranges sound) i l).there (omega arith) in
      record {
        durations = rw (first, value_kept i 1 l (omega arith)) h.durations;
        successors = rw (value_kept i 2 l (omega arith), owner-kept i, there) h.successors;
      }

  -- ---- the whole

  -- the limits of tables 2 to 5 and of the total
  pub record Limits : Type 0 where
    pub few : length rules ≤ 64
    pub alternatives : length (alts_of rules) ≤ 1024
    pub names : length (names_of (alts_of rules)) ≤ 2048
    pub asks : length (asks_of (alts_of rules)) ≤ 2048
    pub short : length (rebuilt b rules) ≤ 16384

  header_sound : Limits → HeaderSound 1 (rebuilt b rules)
  unfolding rebuilt book_of begins
  header_sound z =
      let h = sound.header in
      record {
        edition = refl;
        total = all_words;
        some =
            tables (λ t. fewest t ≤ count (rebuilt b rules) t) (h.some 0 (omega arith)) (h.some 1 (omega arith))
            (omega arith) (omega arith) (omega arith) (omega arith);
        few =
            tables (λ t. count (rebuilt b rules) t ≤ most t) (h.few 0 (omega arith)) (h.few 1 (omega arith))
            z.few z.alternatives z.names z.asks;
        offsets = tables (λ t. offset (rebuilt b rules) t ≡ begins 1 (rebuilt b rules) t) refl refl refl refl refl refl;
      }

  -- THE LAW: a book rebuilt of rules that are as they must be is sound
  pub rebuilt_sound : Limits → All (RuleFine AtomFine 1 (rebuilt b rules)) rules → Sound 1 (rebuilt b rules)
  unfolding rebuilt book_of atom_at fifth_width
  rebuilt_sound z fine =
      let f = (rules_fine atoms AtomFine 1 (rebuilt b rules) rule_ranges name_ranges ask_ranges).0 (rw read_back fine) in
      record {
        long = omega arith;
        short = z.short;
        header = header_sound z;
        whole = all_words;
        variables = variable_sound;
        values = value_sound;
        rules = λ i l. record { trigger = f.trigger i l; alternatives = range_sound rule_ranges i l (f.some i l) (f.few i l) };
        alternatives = λ i l.
            record {
              names = range_sound name_ranges i l (omega arith) (f.few_names i l);
              asks = range_sound ask_ranges i l (omega arith) (f.few_asks i l);
            };
        names = f.names;
        atoms = λ h i l. let a = f.asks i l in record { left = a.left; right = a.right; bounds = a.bounds; jobs = a.jobs };
        constraints = λ h. absurd (omega arith);
        values_used = starts-kept (count b 0) (omega arith) ∙ sound.values_used;
        alternatives_used = rule_ranges.used;
        names_used = name_ranges.used;
        asks_used = ask_ranges.used;
      }
