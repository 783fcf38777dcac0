-- The book with some of its rules is what is written: header, tables 0 and 1 as they stand, and the tables from index 0 on of the rules' numbers
-- and of their alternatives'. Assumes nothing.
use mathlib.Core.Path.{◌≡◌, refl, sym, ap, ◌∙◌}
use mathlib.Core.List.{List, [], ◌∷◌, ◌++◌, map, flat_map, append_assoc, map-append}
use Prim.Native.Nat.{ℕ, zero, suc, ◌+◌, ◌-◌, ◌*◌, ◌≤◌}
use native.Mathlib.Nat.{add-zero, mul-zero, mul-suc, mul_comm}
use native.Mathlib.Numerals.{unary_clauses}
use native.Mathlib.Omega.{arith}
use lib.ListN.{length, take, drop, length-append, length-drop, length-map}
use lib.Seq.{take_all, take_at, take-add, drop-drop, length-take-le}
use Rattle.words.specs.Words.{word}
use Rattle.words.specs.Write.{Wrote, puts}
use Rattle.words.proofs.Write.{puts_eq, length-puts}
use Rattle.words.specs.Runs.{run}
use Rattle.words.proofs.Runs.{length_run, length-rows, length_flat}
use Rattle.listing.proofs.Going.{front}
use Rattle.layout.specs.Layout.{count, offset}
use Rattle.book.specs.Rules.{Atom, Alternative, Rule, name_at, atom_at, alternative_at, rule_at}
use Rattle.book.specs.Encode.{atoms, name_words, atom_words, rule_row, rule_next, rule_rows, alternative_row, alternative_next, alternative_rows, alts_of, names_of, asks_of, book_of}
use Rattle.book.specs.Sound.{Sound}
use Rattle.book.proofs.Inside.{offsets}
use Rattle.writing.proofs.Left.{flat_append}
use Rattle.writing.specs.Book.{table_words}
use Rattle.writing.specs.Whole.{copied}
use Rattle.closing.specs.Rebuilt.{rebuilt}
use Rattle.closing.specs.Left.{numbers_from, total, rule_in, alternative_in, alternatives_of, words_at, alt_word, part, alts_from, rules_from, rows_from, parts_from, total_from, head_by, tables_by, book_by, Ready}
use Rattle.closing.proofs.Joined.{run_join}

-- ---- rules and alternatives by their numbers

-- a run of records is what is read at each number
pub run-numbers : {A : Type 0} (f : ℕ → A) (w o n k : ℕ) → run f w n (o + w * k) ≡ map (λ a. f (o + w * a)) (numbers_from n k)
unfolding run numbers_from
run-numbers f w o zero k = refl
run-numbers f w o (suc n) k =
    let at : o + w * k + w ≡ o + w * (k + 1) = omega (arith, mul-suc w k) in
    rw (at, run-numbers f w o n (k + 1))

pub alternatives_are : (b left : List ℕ) → alts_of (map (rule_in b) left) ≡ map (alternative_in b) (alts_from b left 0)
unfolding alts_from flat_map alternatives_of alternative_in rule_in rule_at
alternatives_are b left = go left
  where
    go : (xs : List ℕ) → alts_of (map (rule_in b) xs) ≡ map (alternative_in b) (flat_map (alternatives_of b) xs)
    go [] = refl
    go (x ∷ xs) =
        rw (go xs, run-numbers (alternative_at atoms b) 4 (offset b 3) _ _) (sym (map-append _ (alternatives_of b x) (flat_map (alternatives_of b) xs)))

-- ---- the names and atoms of alternatives, as words

-- the words of a run of records are the words that stand there
pub flat_run : {X : Type 0} (b : List ℕ) (f : ℕ → X) (words : X → List ℕ) (w : ℕ) → ((k : ℕ) → words (f k) ≡ words_at b k w)
    → (n k : ℕ) → flat_map words (run f w n k) ≡ words_at b k (w * n)
unfolding run flat_map words_at
flat_run b f words w one zero k = rw mul-zero refl
flat_run b f words w one (suc n) k =
    let size : w * suc n ≡ w + w * n = omega (arith, mul-suc w n) in
    let next : k + w ≡ k + 1 * w = omega arith in
    rw (size, one k, flat_run b f words w one n (k + w)) (rw next (run_join (word b) 1 w (w * n) k))

-- `of` are an alternative's names or asks: its range at word j, of records of w words at the place o
module _ {X : Type 0} (b : List ℕ) (f : ℕ → X) (words : X → List ℕ) (j w o : ℕ) (one : (k : ℕ) → words (f k) ≡ words_at b k w)
    (of : Alternative Atom → List X) (says : (a : ℕ) → of (alternative_in b a) ≡ run f w (alt_word b (j + 1) a) (o + w * alt_word b j a)) where
  parts_are : (alts : List ℕ) → flat_map words (flat_map of (map (alternative_in b) alts)) ≡ flat_map (part b j w o) alts
  unfolding flat_map part
  parts_are [] = refl
  parts_are (a ∷ alts) =
      flat_append words (of (alternative_in b a)) (flat_map of (map (alternative_in b) alts))
      ∙ rw (says a, flat_run b f words w one _ _, parts_are alts)

  total-is : (alts : List ℕ) → length (flat_map of (map (alternative_in b) alts)) ≡ total (alt_word b (j + 1)) alts
  unfolding flat_map total
  total-is [] = refl
  total-is (a ∷ alts) =
      length-append (of (alternative_in b a)) (flat_map of (map (alternative_in b) alts)) ∙ rw (says a, length_run, total-is alts)

module _ (b alts : List ℕ) where
  name_says : (a : ℕ) → (alternative_in b a).names ≡ run (name_at b) 2 (alt_word b 1 a) (offset b 4 + 2 * alt_word b 0 a)
  unfolding alternative_in alternative_at alt_word
  name_says a = rw add-zero refl

  ask_says : (a : ℕ) → (alternative_in b a).asks ≡ run (atom_at b) 6 (alt_word b 3 a) (offset b 5 + 6 * alt_word b 2 a)
  unfolding alternative_in alternative_at alt_word
  ask_says a = refl

  pub name_one : (k : ℕ) → name_words (name_at b k) ≡ words_at b k 2
  unfolding name_at words_at run
  name_one k = refl

  pub atom_one : (k : ℕ) → atom_words (atom_at b k) ≡ words_at b k 6
  unfolding atom_at words_at run
  atom_one k = simp unary_clauses

  pub names_are : flat_map name_words (names_of (map (alternative_in b) alts)) ≡ parts_from b alts 0 2 (offset b 4) 0
  unfolding parts_from
  names_are = parts_are b (name_at b) name_words 0 2 (offset b 4) name_one (λ (a : Alternative Atom). a.names) name_says alts

  pub asks_are : flat_map atom_words (asks_of (map (alternative_in b) alts)) ≡ parts_from b alts 2 6 (offset b 5) 0
  unfolding parts_from
  asks_are = parts_are b (atom_at b) atom_words 2 6 (offset b 5) atom_one (λ (a : Alternative Atom). a.asks) ask_says alts

  pub names_many : length (names_of (map (alternative_in b) alts)) ≡ total_from b alts 1 0
  unfolding total_from
  names_many = total-is b (name_at b) name_words 0 2 (offset b 4) name_one (λ (a : Alternative Atom). a.names) name_says alts

  pub asks_many : length (asks_of (map (alternative_in b) alts)) ≡ total_from b alts 3 0
  unfolding total_from
  asks_many = total-is b (atom_at b) atom_words 2 6 (offset b 5) atom_one (λ (a : Alternative Atom). a.asks) ask_says alts

-- ---- the whole

module _ (b : List ℕ) (sound : Sound 1 b) where
  -- tables 0 and 1 stand one behind the other
  both : table_words 1 b 0 ++ table_words 1 b 1 ≡ copied b
  both =
      let o = offsets sound in
      let sum : count b 0 * 2 + count b 1 * 3 ≡ offset b 2 - 14 = omega (arith, o.rules) in
      rw (o.variables, o.values, ← drop-drop (count b 0 * 2) 14 b, ← take-add (count b 0 * 2) (count b 1 * 3) (drop 14 b), sum)

  pub copied-long : length (copied b) ≡ offset b 2 - 14
  copied-long = let o = offsets sound in length-take-le (offset b 2 - 14) (drop 14 b) (omega (arith, length-drop 14 b, o.rules, o.all))

  -- the header's numbers, from those that book_of counts
  heads : (r n m k : ℕ)
      → (let o1 = 14 + count b 0 * 2 in
      let o2 = o1 + count b 1 * 3 in
      let o3 = o2 + r * 4 in
      let o4 = o3 + n * 4 in
      let o5 = o4 + m * 2 in
      let end = o5 + k * 6 in
      1 ∷ end ∷ count b 0 ∷ 14 ∷ count b 1 ∷ o1 ∷ r ∷ o2 ∷ n ∷ o3 ∷ m ∷ o4 ∷ k ∷ o5 ∷ []) ≡ head_by b r n m k
  heads r n m k =
      let o = offsets sound in
      let e1 : offset b 1 ≡ 14 + count b 0 * 2 = o.values in
      let e2 : offset b 2 ≡ 14 + count b 0 * 2 + count b 1 * 3 = o.rules in
      rw (e1, e2, mul_comm r 4, mul_comm n 4, mul_comm m 2, mul_comm k 6)

  -- the tables, from the alternatives that are there
  tables_are : (left : List ℕ) (al : List (Alternative Atom)) → alts_of (map (rule_in b) left) ≡ al
      → rebuilt b (map (rule_in b) left)
      ≡ head_by b (length left) (length al) (length (names_of al)) (length (asks_of al))
      ++ (copied b ++ (rule_rows 0 (map (rule_in b) left)
      ++ (alternative_rows (0, 0) al ++ (flat_map name_words (names_of al) ++ flat_map atom_words (asks_of al)))))
  unfolding rebuilt book_of
  tables_are left al e =
      let rules : List (Rule Atom) = map (rule_in b) left in
      let a : List (Alternative Atom) = alts_of rules in
      let rest : List ℕ = rule_rows 0 rules ++ (alternative_rows (0, 0) a ++ (flat_map name_words (names_of a) ++ flat_map atom_words (asks_of a))) in
      let two : List ℕ = table_words 1 b 0 ++ (table_words 1 b 1 ++ rest) in
      rw (← e, ← both, append_assoc, ← length-map left (rule_in b))
      (ap (λ (h : List ℕ). h ++ two) (heads (length rules) (length a) (length (names_of a)) (length (asks_of a))))

  -- THE LAW: the book with the rules of these numbers, as it is written
  pub book_is : (left alts : List ℕ) → alts ≡ alts_from b left 0 → rebuilt b (map (rule_in b) left) ≡ book_by b left alts
  unfolding book_by tables_by rules_from rows_from
  book_is left alts e =
      let n : length (map (alternative_in b) alts) ≡ length alts = length-map alts (alternative_in b) in
      rw (← n, ← names_are b alts, ← asks_are b alts, ← names_many b alts, ← asks_many b alts)
      (tables_are left (map (alternative_in b) alts) (alternatives_are b left ∙ ap (map (alternative_in b)) (sym e)))

  -- how long a rebuilt book is
  pub rebuilt-long : (rules : List (Rule Atom)) → length (rebuilt b rules)
      ≡ offset b 2 + 4 * length rules + 4 * length (alts_of rules) + 2 * length (names_of (alts_of rules)) + 6 * length (asks_of (alts_of rules))
  unfolding rebuilt book_of
  rebuilt-long rules =
      let o = offsets sound in
      let al : List (Alternative Atom) = alts_of rules in
      let w0 : length (table_words 1 b 0) ≡ count b 0 * 2 = length-take-le _ (drop (offset b 0) b) (simp length-drop (omega arith)) in
      let w1 : length (table_words 1 b 1) ≡ count b 1 * 3 = length-take-le _ (drop (offset b 1) b) (simp length-drop (omega arith)) in
      let w2 = length-rows rule_row rule_next 4 (λ k r. refl) 0 rules in
      let w3 = length-rows alternative_row alternative_next 4 (λ k a. refl) (0, 0) al in
      let w4 = length_flat 2 name_words (λ n. refl) (names_of al) in
      let w5 = length_flat 6 atom_words (λ a. refl) (asks_of al) in
      simp length-append (omega (arith, o.rules))

  -- the same with the numbers as the code has them
  pub book_long : (left alts : List ℕ) → alts ≡ alts_from b left 0
      → length (rebuilt b (map (rule_in b) left))
      ≡ offset b 2 + 4 * length left + 4 * length alts + 2 * total_from b alts 1 0 + 6 * total_from b alts 3 0
  book_long left alts e =
      let same : alts_of (map (rule_in b) left) ≡ map (alternative_in b) alts = alternatives_are b left ∙ ap (map (alternative_in b)) (sym e) in
      rw (← names_many b alts, ← asks_many b alts, ← length-map alts (alternative_in b), ← length-map left (rule_in b), ← same)
      (rebuilt-long (map (rule_in b) left))

-- ---- with the numbers as the code has them: m names, k atoms

pub record Laid (b left alts : List ℕ) (m k : ℕ) : Type 0 where
  pub ends : offset b 2 + 4 * length left + 4 * length alts + 2 * m + 6 * k ≤ 16384
  pub begins : 14 ≤ offset b 2
  pub inside : offset b 2 ≤ length b
  pub is : rebuilt b (map (rule_in b) left) ≡ head_by b (length left) (length alts) m k ++ (copied b ++ tables_by b left alts)

module _ {b left alts : List ℕ} (r : Ready b left alts) where
  pub few_alternatives_lem : length alts ≤ 1024
  few_alternatives_lem = rw r.listed r.fitting.alternatives

  pub few_parts : (total_from b alts 1 0 ≤ 2048) × (total_from b alts 3 0 ≤ 2048)
  few_parts = rw r.listed (r.fitting.names, r.fitting.atoms)

  pub laid : {m k : ℕ} → m ≡ total_from b alts 1 0 → k ≡ total_from b alts 3 0 → Laid b left alts m k
  unfolding book_by
  laid {m} {k} hm hk =
      let sound = r.fitting.sound in
      let o = offsets sound in
      let size = book_long b sound left alts r.listed in
      let short = r.fitting.short in
      let is : rebuilt b (map (rule_in b) left) ≡ head_by b (length left) (length alts) m k ++ (copied b ++ tables_by b left alts) =
      rw (hm, hk) (book_is b sound left alts r.listed) in
      record {
        ends = omega (arith, sound.short);
        begins = omega (arith, o.rules);
        inside = omega (arith, o.rules, o.all);
        is = is;
      }

-- ---- words that were written

pub wrote_long : {b a ws : List ℕ} {at r : ℕ} → Wrote b a at r ws → length a ≡ length b
wrote_long {b} {a} {ws} {at} w = ap length w.same ∙ length-puts b at ws

-- a copy of all words, in front of what it was put into
pub copy_is : {l l' b : List ℕ} {n r : ℕ} → Wrote l l' 0 r (take n (drop 0 b)) → n ≡ length b → n ≤ length l → take n l' ≡ b
copy_is {l} {l'} {b} {n} {r} w e h =
    let all : take n b ≡ b = take_all n b (omega arith) in
    let is : l' ≡ take 0 l ++ b ++ drop (0 + length b) l = w.same ∙ ap (puts l 0) all ∙ puts_eq l 0 b (omega arith) in
    rw is (take_at b (drop (0 + length b) l) n (sym e))

-- the alternatives that were listed in lent words, as those words are left
pub listed_front : {l m n ws : List ℕ} {r : ℕ} → Wrote l m 0 r ws → r ≤ length l → n ≡ m → take r n ≡ ws
listed_front w h e = rw e (front w refl h)
