-- The kept rules fit in the book's own place, and what the code has found is what `removal`, `book_after` and `desks_after` say, case by case.
-- Assumes nothing.
use mathlib.Core.Path.{◌≡◌, refl, sym, ap, ◌∙◌}
use mathlib.Core.Bool.{Bool, true, false, ◌&&◌, false≢true}
use mathlib.Core.List.{List, ◌++◌, map}
use Prim.Native.Nat.{ℕ, ◌+◌, ◌*◌, ◌≤◌, ◌<◌}
use native.Mathlib.Nat.{mul_comm, zero-add}
use native.Mathlib.Omega.{arith}
use lib.Dec.{leb, eqb}
use lib.ListN.{length, get_or, take, drop, length-map}
use lib.Seq.{length-take-le}
use borrow.Author.Tests.{ne_eqb, eqb-true}
use Rattle.answers.specs.declared.Numbers.{Numbers}
use Rattle.answers.specs.Numbers.{numbers, no_fault, or_else}
use Rattle.answers.proofs.Stages.{else_fault}
use Rattle.words.specs.Words.{word}
use Rattle.words.specs.Lists.{all}
use Rattle.words.specs.Write.{Wrote, puts}
use Rattle.words.proofs.Write.{puts_eq}
use Rattle.layout.specs.Layout.{fifth_width, count, offset}
use Rattle.book.specs.Rules.{Atom, Alternative, rules_of}
use Rattle.book.specs.Encode.{atoms, alts_of, names_of, asks_of}
use Rattle.book.specs.Sound.{Sound}
use Rattle.book.specs.Fault.{book_fault}
use Rattle.book.proofs.Good.{good, no_number}
use Rattle.book.proofs.Sound.{sound}
use Rattle.book.proofs.Inside.{offsets}
use Rattle.listing.proofs.Going.{front}
use Rattle.desks.specs.List.{list_right}
use Rattle.closing.specs.Rebuilt.{rebuilt}
use Rattle.closing.specs.Left.{rule_in, alternative_in, alts_from, total_from, Fitting}
use Rattle.closing.proofs.Joined.{counts}
use Rattle.closing.proofs.Whole.{alternatives_are, names_many, asks_many, rebuilt-long, wrote_long}
use Rattle.removal.specs.Removed.{kept, removed_book, in_front}
use Rattle.removal.specs.Removal.{rising, desk_fault, list_fault, removal_fault, removal, book_after, desks_after}
use Rattle.removal.specs.Left.{left_from, Climbs, Right, ClosedUp}
use Rattle.removal.proofs.Kept.{fewer, rules_are}
use Rattle.removal.proofs.Desks.{left_below, left_climbs, desks_are}

-- ---- the kept rules fit

module _ (b : List ℕ) (s : Sound 1 b) (list : List ℕ) where
  abbrev left : List ℕ
  left = left_from list (count b 2) 0

  -- the shorter book isn't longer
  pub removed_short : length (removed_book b list) ≤ length b
  unfolding removed_book fifth_width
  removed_short =
      let o = offsets s in
      let c = counts s in
      let f = fewer list 0 (rules_of atoms b) in
      omega (arith, rebuilt-long b s (kept list 0 (rules_of atoms b)), o.rules, o.all)

  -- and has no more rules
  pub left-long : length left ≡ length (kept list 0 (rules_of atoms b))
  left-long = sym (length-map left (rule_in b)) ∙ ap length (rules_are b list)

  pub removed_is : removed_book b list ≡ rebuilt b (map (rule_in b) left)
  unfolding removed_book
  removed_is = ap (rebuilt b) (sym (rules_are b list))

  pub fewer_rules : length left ≤ count b 2
  fewer_rules = omega (arith, left-long, (fewer list 0 (rules_of atoms b)).rules, (counts s).rules)

  pub fitting : Fitting b left
  fitting =
      let c = counts s in
      let few = s.header.few in
      let f = fewer list 0 (rules_of atoms b) in
      let alts : List ℕ = alts_from b left 0 in
      let same : alts_of (kept list 0 (rules_of atoms b)) ≡ map (alternative_in b) alts = ap alts_of (sym (rules_are b list)) ∙ alternatives_are b left in
      let n3 : length (alts_of (kept list 0 (rules_of atoms b))) ≡ length alts = ap length same ∙ length-map alts (alternative_in b) in
      let n4 : length (names_of (alts_of (kept list 0 (rules_of atoms b)))) ≡ total_from b alts 1 0 =
      ap (λ (a : List (Alternative Atom)). length (names_of a)) same ∙ names_many b alts in
      let n5 : length (asks_of (alts_of (kept list 0 (rules_of atoms b)))) ≡ total_from b alts 3 0 =
      ap (λ (a : List (Alternative Atom)). length (asks_of a)) same ∙ asks_many b alts in
      record {
        sound = s;
        ranged = ranged;
        alternatives = omega (arith, few 3 (omega arith));
        names = omega (arith, few 4 (omega arith));
        atoms = omega (arith, few 5 (omega arith));
        short = omega (arith, removed_short, ap length removed_is);
      }
    where
      ranged : (i : ℕ) → i < length left → word b (offset b 2 + 4 * get_or left i 0 + 2) + word b (offset b 2 + 4 * get_or left i 0 + 3) ≤ 1024
      ranged i l =
          let x : ℕ = get_or left i 0 in
          let q = (s.rules x (left_below list (count b 2) i l)).alternatives in
          rw (mul_comm 4 x) (omega (arith, q.inside, s.header.few 3 (omega arith)))

-- ---- closed up

pub record Listed (list l : List ℕ) (n m : ℕ) : Type 0 where
  pub within : m ≤ length l
  pub is : take m l ≡ left_from list n 0
  pub many : m ≡ length (take m l)
  pub small : m ≤ 64

module _ {b d list : List ℕ} {n : ℕ} (r : Right b d list n) where
  pub few_rules : n ≤ 64
  few_rules = omega (arith, r.rules, r.sound.header.few 2 (omega arith))

  -- the numbers of the kept rules, in front of the array that they were put into
  pub left_listed : {l₀ l : List ℕ} {m : ℕ} → length l₀ ≡ 64 → Wrote l₀ l 0 m (left_from list n 0) → Listed list l n m
  left_listed {l₀} {l} {m} e w =
      let few : length (left_from list n 0) ≤ count b 2 = rw r.rules (fewer_rules b r.sound list) in
      let long = wrote_long w in
      let small = few_rules in
      let within : m ≤ 64 = omega (arith, w.next, r.rules) in
      record {
        within = omega arith;
        is = front w refl (omega arith);
        many = sym (length-take-le m l (omega arith));
        small = within;
      }

  -- as the code has them
  module _ {left : List ℕ} (e : left ≡ left_from list n 0) where
    same : left ≡ left_from list (count b 2) 0
    same = rw (← r.rules) e

    pub left_fits : Fitting b left
    left_fits = rw same (fitting b r.sound list)

    pub left_climbing : Climbs left
    left_climbing = rw e (left_climbs list n)

    pub left_short : length left ≤ length d
    left_short = rw (same, r.desks) (fewer_rules b r.sound list)

    pub closed_up_lem : {b' d' : List ℕ} {end many : ℕ} → many ≡ length left → Wrote b b' 0 end (rebuilt b (map (rule_in b) left))
        → d' ≡ in_front (map (word d) left) d → ClosedUp b d list (numbers 0 end many) b' d'
    unfolding in_front
    closed_up_lem {b'} {d'} {end} {many} hm w hd =
        let new : rebuilt b (map (rule_in b) left) ≡ removed_book b list =
        ap (λ (l : List ℕ). rebuilt b (map (rule_in b) l)) same ∙ sym (removed_is b r.sound list) in
        let short = removed_short b r.sound list in
        let ends : end ≡ length (removed_book b list) = w.next ∙ rw new (zero-add _) in
        let count : many ≡ length (kept list 0 (rules_of atoms b)) = hm ∙ ap length same ∙ left-long b r.sound list in
        let words : map (word d) left ≡ kept list 0 d = ap (map (word d)) e ∙ desks_are list d n (r.desks ∙ sym r.rules) in
        record {
          answer = rw (ends, count);
          book =
              w.same ∙ ap (puts b 0) new ∙ puts_eq b 0 (removed_book b list) (omega arith)
              ∙ ap (λ (k : ℕ). removed_book b list ++ drop k b) (zero-add (length (removed_book b list)));
          desks = hd ∙ rw words;
        }

-- ---- the answer, and the lent words afterwards

-- where the answer is v, and not 0, both lent runs are as they were
refused : (b d list : List ℕ) (v : Numbers) → removal b d list ≡ v → (v.number ≡ 0 → ⊥)
    → (v ≡ removal b d list) × ((b ≡ book_after b d list) × (d ≡ desks_after b d list))
unfolding book_after desks_after
refused b d list v e h = (sym e, (rw (e, ne_eqb v.number 0 h), rw (e, ne_eqb v.number 0 h)))

-- a fault that comes first is the answer
first_stays : (r x y : Numbers) → (r.number ≡ 0 → ⊥) → or_else (or_else r x) y ≡ r
first_stays r x y h = rw (else_fault r x h) (else_fault r y h)

module _ (b d list : List ℕ) where
  -- 1 to 4
  pub bad_by : (r f : Numbers) → r ≡ book_fault 1 b → f ≡ r → (f.number ≡ 0 → ⊥)
      → (r ≡ removal b d list) × ((b ≡ book_after b d list) × (d ≡ desks_after b d list))
  unfolding removal removal_fault
  bad_by r f e q h =
      let bad : r.number ≡ 0 → ⊥ = λ z. h (ap (λ (x : Numbers). x.number) q ∙ z) in
      refused b d list r (rw (← e) (first_stays r _ _ bad)) bad

  module _ (r f : Numbers) (e : r ≡ book_fault 1 b) (q : f ≡ r) (h : f.number ≡ 0) where
    good_book : book_fault 1 b ≡ no_fault
    good_book = no_number 1 b (ap (λ (x : Numbers). x.number) (sym e ∙ sym q) ∙ h)

    pub sound_book : Sound 1 b
    sound_book = sound 1 b (good 1 b good_book)

    -- 19
    pub no_desk : (t : Bool) → t ≡ list_right b d → t ≡ false
        → (numbers 19 0 0 ≡ removal b d list) × ((b ≡ book_after b d list) × (d ≡ desks_after b d list))
    unfolding removal removal_fault desk_fault or_else
    no_desk t k z = refused b d list (numbers 19 0 0) (rw (good_book, ← k, z)) (λ n. omega arith)

    module _ (t : Bool) (k : t ≡ list_right b d) (z : t ≡ true) where
      -- the list of desks is as long as table 2
      pub desks_long : length d ≡ count b 2
      unfolding list_right
      desks_long = by (eqb (length d) (count b 2)) refl (sym k ∙ z)
        where
          by : (a : Bool) → eqb (length d) (count b 2) ≡ a → (a && all (λ w. leb w 1) d) ≡ true → length d ≡ count b 2
          by true p y = eqb-true _ _ p
          by false p y = absurd (false≢true y)

      -- 24
      pub no_rules_lem : (n : ℕ) (u : Bool) → n ≡ count b 2 → u ≡ rising 0 n list → u ≡ false
          → (numbers 24 0 0 ≡ removal b d list) × ((b ≡ book_after b d list) × (d ≡ desks_after b d list))
      unfolding removal removal_fault desk_fault list_fault or_else
      no_rules_lem n u m p y = refused b d list (numbers 24 0 0) (rw (good_book, ← k, z, ← m, ← p, y)) (λ n. omega arith)

      -- 0
      module _ (n : ℕ) (u : Bool) (m : n ≡ count b 2) (p : u ≡ rising 0 n list) (y : u ≡ true) where
        pub right : Right b d list n
        right = record { sound = sound_book; desks = desks_long; rules = m; rises = sym p ∙ y }

        pub answered : removal b d list ≡ numbers 0 (length (removed_book b list)) (length (kept list 0 (rules_of atoms b)))
        unfolding removal removal_fault desk_fault list_fault or_else
        answered = rw (good_book, ← k, z, ← m, ← p, y)

        pub done : (v : Numbers) (b' d' : List ℕ) → ClosedUp b d list v b' d'
            → (v ≡ removal b d list) × ((b' ≡ book_after b d list) × (d' ≡ desks_after b d list))
        unfolding book_after desks_after removal removal_fault desk_fault list_fault or_else
        done v b' d' c = rw (good_book, ← k, z, ← m, ← p, y) (c.answer, (c.book, c.desks))
