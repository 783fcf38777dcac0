-- The laws of a loop over what is left to count or to write: one more, or none. Assumes nothing.
use mathlib.Core.Path.{◌≡◌, refl, sym, ap, ◌∙◌}
use Prim.Native.Nat.{ℕ, zero, suc, ◌+◌, ◌-◌, ◌*◌, ◌/◌, ◌%◌, ◌≤◌, ◌<◌}
use native.Mathlib.Omega.{arith}
use mathlib.Core.List.{List, [], ◌∷◌, ◌++◌, flat_map, append_assoc}
use lib.ListN.{length, get_or, length-append, length-map}
use Rattle.words.specs.Words.{word}
use Rattle.words.specs.Runs.{rows}
use Rattle.words.proofs.Runs.{length_run, run_at}
use Rattle.layout.specs.Layout.{offset}
use Rattle.book.specs.Rules.{name_at}
use Rattle.book.specs.Encode.{name_words, atom_words, names_of, asks_of}
use Rattle.allen.specs.Atoms.{atoms_of}
use Rattle.listing.specs.Items.{alt_of, asks_for, asks_from, gather, names_for, rule_for, rule_items}
use Rattle.writing.specs.Left.{alts_left, atom_count, atom_words_from, atoms_left, count_from, item_atoms, item_names, name_count, name_words_from, names_left, rows_left, rules_left, sizes}
use Rattle.listing.proofs.Items.{below_at}
use Rattle.listing.proofs.Going.{drop_more, drop-none, gather_more, next_place, run_more, run_none}
use Rattle.writing.specs.Compare.{relation_words}
use Rattle.listing.specs.Listed.{sizes_from}

pub flat_append : {A B : Type 0} (f : A → List B) (xs ys : List A) → flat_map f (xs ++ ys) ≡ flat_map f xs ++ flat_map f ys
unfolding flat_map
flat_append f [] ys = refl
flat_append f (x ∷ xs) ys = rw (flat_append f xs ys) (sym (append_assoc (f x) (flat_map f xs) (flat_map f ys)))

-- ---- one item

module _ (s : List ℕ) where
  pub name_words_more : (n i o t v : ℕ) → i < n → t ≡ word s (o + 2 * i) → v ≡ word s (o + 2 * i + 1)
      → name_words_from s n i (o + 2 * i) ≡ (t ∷ v ∷ []) ++ name_words_from s n (i + 1) (o + 2 * (i + 1))
  unfolding name_words_from flat_map name_at
  name_words_more n i o t v l ht hv = rw (run_more (name_at s) 2 n i (o + 2 * i) l, ht, hv, ← next_place o 2 i)

  pub name_words_none : (n i q : ℕ) → n ≤ i → name_words_from s n i q ≡ []
  unfolding name_words_from flat_map
  name_words_none n i q l = rw (run_none (name_at s) 2 n i q l)

  pub name_words_all : (item at n : ℕ) → at ≡ offset s 4 + 2 * word s (item % 16384) → n ≡ word s (item % 16384 + 1) → item_names s item ≡ name_words_from s n 0 (at + 2 * 0)
  unfolding item_names name_words_from alt_of names_for
  name_words_all item at n ha hn =
      let e : n - 0 ≡ n = omega arith in
      let p : at + 2 * 0 ≡ at = omega arith in
      rw (e, p, ha, hn)

  pub atom_words_more : (k i o code l r : ℕ) → i < k → l ≡ word s (o + 3 * i) → r ≡ word s (o + 3 * i + 1)
      → atom_words_from s k i (o + 3 * i) code ≡ relation_words (code % 16) l r ++ atom_words_from s k (i + 1) (o + 3 * (i + 1)) (code / 16)
  unfolding atom_words_from asks_from relation_words
  atom_words_more k i o code l r lt hl hr =
      let q : ℕ = o + 3 * i in
      let e : k - i ≡ suc (k - (i + 1)) = omega arith in
      rw (e, hl, hr, ← next_place o 3 i)
      (flat_append atom_words (atoms_of (code % 16) (word s q) (word s (q + 1))) (asks_from s (k - (i + 1)) (q + 3) (code / 16)))

  pub atom_words_none : (k i q code : ℕ) → k ≤ i → atom_words_from s k i q code ≡ []
  unfolding atom_words_from asks_from flat_map
  atom_words_none k i q code l =
      let e : k - i ≡ 0 = omega arith in
      rw e

  pub atom_words_all : (item q k code : ℕ) → q ≡ offset s 5 + 3 * word s (item % 16384 + 2) → k ≡ word s (item % 16384 + 3) → code ≡ item / 16384
      → item_atoms s item ≡ atom_words_from s k 0 (q + 3 * 0) code
  unfolding item_atoms atom_words_from alt_of asks_for
  atom_words_all item q k code hq hk hc =
      let e : k - 0 ≡ k = omega arith in
      let p : q + 3 * 0 ≡ q = omega arith in
      rw (e, p, hq, hk, hc)

-- ---- how many atoms

pub size_is : (x l r : ℕ) → x < 16 → length (atoms_of x l r) ≡ get_or sizes x 0
unfolding atoms_of
size_is x l r h =
    below_at (λ (x : ℕ). length (atoms_of x l r) ≡ get_or sizes x 0)
    16 x (refl, (refl, (refl, (refl, (refl, (refl, (refl, (refl, (refl, (refl, (refl, (refl, (refl, (refl, (refl, (refl, tt)))))))))))))))) h

pub size_small : (x : ℕ) → x < 16 → get_or sizes x 0 ≤ 3
size_small x h =
    below_at (λ (x : ℕ). get_or sizes x 0 ≤ 3)
    16 x (omega arith, (omega arith, (omega arith, (omega arith, (omega arith, (omega arith, (omega arith, (omega arith, (omega arith, (omega arith, (omega arith, (omega arith, (omega arith, (omega arith, (omega arith, (omega arith, tt)))))))))))))))) h

pub count-is : (s : List ℕ) (k at code : ℕ) → length (asks_from s k at code) ≡ count_from k code
unfolding asks_from count_from
count-is s zero at code = refl
count-is s (suc k) at code =
    length-append (atoms_of (code % 16) (word s at) (word s (at + 1))) (asks_from s k (at + 3) (code / 16))
    ∙ rw (count-is s k (at + 3) (code / 16), size_is (code % 16) (word s at) (word s (at + 1)) (omega arith), size_is (code % 16) 0 0 (omega arith))

pub count_more : (k i code : ℕ) → i < k → count_from (k - i) code ≡ get_or sizes (code % 16) 0 + count_from (k - (i + 1)) (code / 16)
unfolding count_from
count_more k i code l =
    let e : k - i ≡ suc (k - (i + 1)) = omega arith in
    rw (e, size_is (code % 16) 0 0 (omega arith))

pub count_none : (k i code : ℕ) → k ≤ i → count_from (k - i) code ≡ 0
unfolding count_from
count_none k i code l =
    let e : k - i ≡ 0 = omega arith in
    rw e

pub count-all : (k code : ℕ) → count_from k code ≡ count_from (k - 0) code
count-all k code =
    let e : k - 0 ≡ k = omega arith in
    rw e

pub item_count : (s : List ℕ) (item k : ℕ) → k ≡ word s (item % 16384 + 3) → length (alt_of s item).asks ≡ count_from k (item / 16384)
unfolding alt_of asks_for
item_count s item k h = rw h (count-is s (word s (item % 16384 + 3)) (offset s 5 + 3 * word s (item % 16384 + 2)) (item / 16384))

pub item_named : (s : List ℕ) (item : ℕ) → length (alt_of s item).names ≡ word s (item % 16384 + 1)
unfolding alt_of names_for
item_named s item = length_run (name_at s) 2 (word s (item % 16384 + 1)) (offset s 4 + 2 * word s (item % 16384))

-- ---- all items from item i on

module _ (s list : List ℕ) where
  module _ (i : ℕ) (l : i < length list) where
    alts_more : alts_left s list i ≡ alt_of s (get_or list i 0) ∷ alts_left s list (i + 1)
    unfolding alts_left
    alts_more = rw (drop_more list i l)

    pub names_more : names_left s list i ≡ item_names s (get_or list i 0) ++ names_left s list (i + 1)
    unfolding names_left item_names flat_map
    names_more = rw alts_more (flat_append name_words (alt_of s (get_or list i 0)).names (names_of (alts_left s list (i + 1))))

    pub atoms_more : atoms_left s list i ≡ item_atoms s (get_or list i 0) ++ atoms_left s list (i + 1)
    unfolding atoms_left item_atoms flat_map
    atoms_more = rw alts_more (flat_append atom_words (alt_of s (get_or list i 0)).asks (asks_of (alts_left s list (i + 1))))

    pub rows_more : (name atom n k : ℕ) → n ≡ length (alt_of s (get_or list i 0)).names → k ≡ length (alt_of s (get_or list i 0)).asks
        → rows_left s list i name atom ≡ (name ∷ n ∷ atom ∷ k ∷ []) ++ rows_left s list (i + 1) (name + n) (atom + k)
    unfolding rows_left rows
    rows_more name atom n k hn hk = rw (alts_more, hn, hk)

    pub name_count_more : name_count s list i ≡ length (alt_of s (get_or list i 0)).names + name_count s list (i + 1)
    unfolding name_count flat_map
    name_count_more = rw alts_more (length-append (alt_of s (get_or list i 0)).names (names_of (alts_left s list (i + 1))))

    pub atom_count_more : atom_count s list i ≡ length (alt_of s (get_or list i 0)).asks + atom_count s list (i + 1)
    unfolding atom_count flat_map
    atom_count_more = rw alts_more (length-append (alt_of s (get_or list i 0)).asks (asks_of (alts_left s list (i + 1))))

  module _ (i : ℕ) (l : length list ≤ i) where
    alts_none : alts_left s list i ≡ []
    unfolding alts_left
    alts_none = rw (drop-none list i l)

    pub names-none : names_left s list i ≡ []
    unfolding names_left flat_map
    names-none = rw alts_none

    pub atoms-none : atoms_left s list i ≡ []
    unfolding atoms_left flat_map
    atoms-none = rw alts_none

    pub rows_none : (name atom : ℕ) → rows_left s list i name atom ≡ []
    unfolding rows_left rows
    rows_none name atom = rw alts_none

    pub name_count_none : name_count s list i ≡ 0
    unfolding name_count flat_map
    name_count_none = rw alts_none

    pub atom_count_none : atom_count s list i ≡ 0
    unfolding atom_count flat_map
    atom_count_none = rw alts_none

-- ---- all rules from rule i on, of n, at the place q; the next alternative is number k

module _ (s : List ℕ) (n i o k : ℕ) where
  pub rules_more : i < n → (a v m : ℕ) → a ≡ word s (o + 4 * i) → v ≡ word s (o + 4 * i + 1) → m ≡ length (rule_items s (o + 4 * i))
      → rules_left s n i (o + 4 * i) k ≡ (a ∷ v ∷ k ∷ m ∷ []) ++ rules_left s n (i + 1) (o + 4 * (i + 1)) (k + m)
  unfolding rules_left rows rule_for
  rules_more l a v m ha hv hm =
      rw (run_more (rule_for s) 4 n i (o + 4 * i) l, ha, hv, hm, length-map (rule_items s (o + 4 * i)) (alt_of s), ← next_place o 4 i)

  pub rules_none : n ≤ i → rules_left s n i (o + 4 * i) k ≡ []
  unfolding rules_left rows
  rules_none l = rw (run_none (rule_for s) 4 n i (o + 4 * i) l)

-- ---- a rule's number of items, and its part of the list

pub gather-long : (f : ℕ → List ℕ) (w n i o : ℕ) → i < n
    → length (gather f w (n - i) (o + w * i)) ≡ length (f (o + w * i)) + length (gather f w (n - (i + 1)) (o + w * (i + 1)))
gather-long f w n i o l = ap length (gather_more f w n i o l) ∙ length-append (f (o + w * i)) (gather f w (n - (i + 1)) (o + w * (i + 1)))

module _ (s numbers : List ℕ) (n o : ℕ) (h : numbers ≡ sizes_from s n o) where
  -- as many numbers as rules
  pub sizes-long : length numbers ≡ n
  unfolding sizes_from
  sizes-long = ap length h ∙ length_run (λ (k : ℕ). length (rule_items s k)) 4 n o

  -- number i is that of rule i
  pub sizes-at : (i q : ℕ) → i < length numbers → q ≡ o + 4 * i → get_or numbers i 0 ≡ length (rule_items s q)
  unfolding sizes_from
  sizes-at i q l e =
      let p : q ≡ o + i * 4 = omega arith in
      rw (h, p) (run_at (λ (k : ℕ). length (rule_items s k)) 4 n o i 0 (omega (arith, sizes-long)))
