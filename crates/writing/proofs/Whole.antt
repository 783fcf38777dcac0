-- The book that a sheet becomes is what is written, table by table, and how many words it has. Assumes nothing.
use mathlib.Core.Path.{◌≡◌, refl, sym, ap, ◌∙◌}
use Prim.Native.Nat.{ℕ, ◌+◌, ◌-◌, ◌*◌, ◌≤◌}
use native.Mathlib.Omega.{arith}
use mathlib.Core.List.{List, [], ◌∷◌, ◌++◌, map, flat_map, append_assoc}
use lib.ListN.{length, take, drop, length-append, length-drop, length-map}
use lib.Seq.{take-add, drop-drop, length-take-le}
use Rattle.words.specs.Write.{Has}
use Rattle.words.specs.Runs.{run}
use Rattle.words.proofs.Runs.{length_run, length-rows, length_flat}
use Rattle.layout.specs.Layout.{count, offset}
use Rattle.book.specs.Rules.{Atom, Alternative, Rule}
use Rattle.book.specs.Encode.{alts_of, names_of, asks_of, name_words, atom_words, rule_rows, rule_row, rule_next, alternative_rows, alternative_row, alternative_next, book_of}
use Rattle.book.specs.Sound.{Sound}
use Rattle.book.proofs.Inside.{offsets}
use Rattle.writing.specs.Whole.{Counted, Ready, after_names, after_rows, book_end, copied, head, tables_by}
use Rattle.listing.specs.Items.{all_items, alt_of, rule_for, rules_by}
use Rattle.listing.proofs.Bridge.{alternatives_are, rules_are}
use Rattle.writing.specs.Left.{alts_left, atom_count, atoms_left, name_count, names_left, rows_left, rules_left}
use Rattle.listing.specs.Expand.{rules_for}
use Rattle.listing.proofs.Sheet.{sheet_fits}
use Rattle.writing.specs.Book.{table_words, translated}

-- how many alternatives, names and atoms the book has, and how many words
pub record Sizes (s : List ℕ) (n m k w : ℕ) : Type 0 where
  pub alternatives : n ≡ length (alts_of (rules_for s))
  pub names : m ≡ length (names_of (alts_of (rules_for s)))
  pub atoms : k ≡ length (asks_of (alts_of (rules_for s)))
  pub all : w ≡ length (translated s)

module _ (s : List ℕ) (sound : Sound 2 s) where
  alts : alts_of (rules_for s) ≡ map (alt_of s) (all_items s)
  alts = ap alts_of (rules_are s (sheet_fits s sound)) ∙ alternatives_are s

  pub many : length (rules_for s) ≡ count s 2
  unfolding rules_by
  many = ap length (rules_are s (sheet_fits s sound)) ∙ length_run (rule_for s) 4 (count s 2) (offset s 2)

  -- tables 0 and 1 stand one behind the other
  both : table_words 2 s 0 ++ table_words 2 s 1 ≡ copied s
  both =
      let o = offsets sound in
      let n0 : offset s 0 ≡ 14 = o.variables in
      let n1 : offset s 1 ≡ 14 + count s 0 * 2 = o.values in
      let sum : count s 0 * 2 + count s 1 * 3 ≡ offset s 2 - 14 = omega (arith, o.rules) in
      let second : drop (offset s 1) s ≡ drop (count s 0 * 2) (drop 14 s) = ap (λ (k : ℕ). drop k s) n1 ∙ sym (drop-drop (count s 0 * 2) 14 s) in
      ap (λ (k : ℕ). take (count s 0 * 2) (drop k s) ++ take (count s 1 * 3) (drop (offset s 1) s)) n0
      ∙ ap (λ (l : List ℕ). take (count s 0 * 2) (drop 14 s) ++ take (count s 1 * 3) l) second
      ∙ sym (take-add (count s 0 * 2) (count s 1 * 3) (drop 14 s))
      ∙ ap (λ (k : ℕ). take k (drop 14 s)) sum

  -- the header's numbers, from those that book_of counts
  heads : (r a b c : ℕ) → r ≡ count s 2
      → (let o1 = 14 + count s 0 * 2 in
      let o2 = o1 + count s 1 * 3 in
      let o3 = o2 + r * 4 in
      let o4 = o3 + a * 4 in
      let o5 = o4 + b * 2 in
      let end = o5 + c * 6 in
      1 ∷ end ∷ count s 0 ∷ 14 ∷ count s 1 ∷ o1 ∷ r ∷ o2 ∷ a ∷ o3 ∷ b ∷ o4 ∷ c ∷ o5 ∷ []) ≡ head s a b c
  heads r a b c h =
      let o = offsets sound in
      let e1 : offset s 1 ≡ 14 + count s 0 * 2 = o.values in
      let e2 : offset s 2 ≡ 14 + count s 0 * 2 + count s 1 * 3 = o.rules in
      let e3 : offset s 3 ≡ 14 + count s 0 * 2 + count s 1 * 3 + r * 4 = omega (arith, o.alternatives) in
      let e4 : after_rows s a ≡ 14 + count s 0 * 2 + count s 1 * 3 + r * 4 + a * 4 = omega arith in
      let e5 : after_names s a b ≡ 14 + count s 0 * 2 + count s 1 * 3 + r * 4 + a * 4 + b * 2 = omega arith in
      let e6 : book_end s a b c ≡ 14 + count s 0 * 2 + count s 1 * 3 + r * 4 + a * 4 + b * 2 + c * 6 = omega arith in
      rw (e6, e5, e4, e3, e2, e1, ← h)

  -- the tables, from the alternatives that are there
  tables_are : (al : List (Alternative Atom)) → alts_of (rules_for s) ≡ al
      → translated s
      ≡ head s (length al) (length (names_of al)) (length (asks_of al))
      ++ (copied s ++ (rule_rows 0 (rules_for s) ++ (alternative_rows (0, 0) al ++ (flat_map name_words (names_of al) ++ flat_map atom_words (asks_of al)))))
  unfolding translated book_of
  tables_are al e =
      let a : List (Alternative Atom) = alts_of (rules_for s) in
      let rest : List ℕ = rule_rows 0 (rules_for s) ++ (alternative_rows (0, 0) a ++ (flat_map name_words (names_of a) ++ flat_map atom_words (asks_of a))) in
      let two : List ℕ = table_words 2 s 0 ++ (table_words 2 s 1 ++ rest) in
      rw (← e, ← both, append_assoc) (ap (λ (h : List ℕ). h ++ two) (heads (length (rules_for s)) (length a) (length (names_of a)) (length (asks_of a)) many))

  -- THE LAW: the book, al it is written
  pub book_is : (list : List ℕ) → list ≡ all_items s
      → translated s ≡ head s (length list) (name_count s list 0) (atom_count s list 0) ++ (copied s ++ tables_by s list)
  unfolding tables_by rules_left rows_left names_left atoms_left name_count atom_count alts_left rules_by
  book_is list e =
      let n0 : count s 2 - 0 ≡ count s 2 = omega arith in
      let r : rules_for s ≡ run (rule_for s) 4 (count s 2 - 0) (offset s 2) = rw n0 (rules_are s (sheet_fits s sound)) in
      let n : length (map (alt_of s) list) ≡ length list = length-map list (alt_of s) in
      rw (← r, ← n) (tables_are (map (alt_of s) list) (alts ∙ ap (map (alt_of s)) (sym e)))

  -- and its sizes
  pub sizes_are : (list : List ℕ) → list ≡ all_items s → Sizes s (length list) (name_count s list 0) (atom_count s list 0) (book_end s (length list) (name_count s list 0) (atom_count s list 0))
  unfolding tables_by rules_left rows_left names_left atoms_left name_count atom_count alts_left
  sizes_are list e =
      let al : List (Alternative Atom) = map (alt_of s) list in
      let o = offsets sound in
      let same : alts_of (rules_for s) ≡ al = alts ∙ ap (map (alt_of s)) (sym e) in
      let rules : List (Rule Atom) = run (rule_for s) 4 (count s 2 - 0) (offset s 2) in
      let t2 : length (rule_rows 0 rules) ≡ length rules * 4 = length-rows rule_row rule_next 4 (λ k r. refl) 0 rules in
      let t3 : length (alternative_rows (0, 0) al) ≡ length al * 4 = length-rows alternative_row alternative_next 4 (λ k r. refl) (0, 0) al in
      let t4 : length (flat_map name_words (names_of al)) ≡ length (names_of al) * 2 = length_flat 2 name_words (λ a. refl) (names_of al) in
      let t5 : length (flat_map atom_words (asks_of al)) ≡ length (asks_of al) * 6 = length_flat 6 atom_words (λ a. refl) (asks_of al) in
      let n : length al ≡ length list = length-map list (alt_of s) in
      let r : length rules ≡ count s 2 - 0 = length_run (rule_for s) 4 (count s 2 - 0) (offset s 2) in
      let c : length (copied s) ≡ offset s 2 - 14 = length-take-le (offset s 2 - 14) (drop 14 s) (omega (arith, length-drop 14 s, o.rules, o.all)) in
      let tables : List ℕ = rule_rows 0 rules ++ (alternative_rows (0, 0) al ++ (flat_map name_words (names_of al) ++ flat_map atom_words (asks_of al))) in
      let w0 : length (translated s) ≡ 14 + length (copied s ++ tables) = ap length (book_is list e) ∙ length-append (head s (length list) (length (names_of al)) (length (asks_of al))) (copied s ++ tables) in
      let w1 = length-append (copied s) tables in
      let w2 : length tables ≡ length (rule_rows 0 rules) + (length (alternative_rows (0, 0) al) + (length (flat_map name_words (names_of al)) + length (flat_map atom_words (asks_of al)))) = simp length-append in
      record {
        alternatives = sym (ap length same ∙ n);
        names = sym (ap (λ (a : List (Alternative Atom)). length (names_of a)) same);
        atoms = sym (ap (λ (a : List (Alternative Atom)). length (asks_of a)) same);
        all = omega (arith, w0, w1, w2, t2, t3, t4, t5, o.rules, o.alternatives);
      }

pub items_few : {s list numbers : List ℕ} → Ready s list numbers → length (all_items s) ≤ 4096
items_few r = rw r.items at r.few

pub copied-long : (s : List ℕ) → Sound 2 s → length (copied s) ≡ offset s 2 - 14
copied-long s sound =
    let o = offsets sound in
    length-take-le (offset s 2 - 14) (drop 14 s) (omega (arith, length-drop 14 s, o.rules, o.all))

module _ {s list numbers : List ℕ} {m k : ℕ} {room : List ℕ} (ready : Ready s list numbers) (counted : Counted s list m k room) where
  pub book_by_lem : translated s ≡ head s (length list) m k ++ (copied s ++ tables_by s list)
  book_by_lem = rw (counted.names, counted.atoms) (book_is s ready.sound list ready.items)

  pub book_room : Has room 0 (head s (length list) m k ++ (copied s ++ tables_by s list))
  book_room = record { fits = fit counted.fits }
    where
      fit : book_end s (length list) m k ≤ length room → 0 + length (head s (length list) m k ++ (copied s ++ tables_by s list)) ≤ length room
      fit l =
          let z = (sizes_are s ready.sound list ready.items).all in
          let e = ap length book_by_lem in
          let n = counted.names in
          let a = counted.atoms in
          omega arith

-- the sizes, with the numbers as the code has them
pub sizes-by : {s list numbers : List ℕ} {n m k w : ℕ} → Ready s list numbers → n ≡ length list → m ≡ name_count s list 0 → k ≡ atom_count s list 0
    → w ≡ book_end s n m k → Sizes s n m k w
sizes-by {s} {list} r hn hm hk hw = rw (hw, hn, hm, hk) (sizes_are s r.sound list r.items)

-- there are at most 64 rules
pub few_rules : {s list numbers : List ℕ} → Ready s list numbers → count s 2 ≤ 64
few_rules r = r.sound.header.few 2 (omega arith)
