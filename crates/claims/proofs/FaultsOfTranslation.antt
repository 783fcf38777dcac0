-- The translator's rows of the fault table, each exactly if what it says is so and nothing before it in the order is: 1 to 4 of the sheet, 13,
-- 14 and 15, each with its place, and 0 with its two numbers. So a sheet is taken exactly if it is sound, within the limits and the room is
-- long enough. Assumes nothing.
use mathlib.Core.Path.{◌≡◌, refl, sym, ap, ◌∙◌, subst}
use mathlib.Core.Bool.{Bool, true, false, cond}
use mathlib.Core.Logic.{◌↔◌, ◌⊎◌, inl, inr, ⊎_elim}
use mathlib.Core.List.{List, [], ◌∷◌}
use Prim.Native.Nat.{ℕ, ◌≤◌, ◌<◌}
use native.Mathlib.Omega.{arith}
use lib.Dec.{ltb}
use lib.ListN.{length, get_or, take}
use borrow.Author.Tests.{ltb-true, ltb-false, lt-ltb, le-ltb}
use Rattle.answers.specs.declared.Numbers.{Numbers}
use Rattle.answers.specs.Numbers.{numbers, no_fault}
use Rattle.words.specs.Lists.{all}
use Rattle.words.specs.Least.{first}
use Rattle.words.proofs.Least.{first-least}
use Rattle.book.specs.Encode.{alts_of, names_of, asks_of}
use Rattle.book.specs.Sound.{Sound}
use Rattle.book.specs.Fault.{book_fault}
use Rattle.verdict.specs.Judged.{no_rule}
use Rattle.translator.specs.Translation.{rules_for, translated, too_many, rule_fault, size_fault, room_fault, translation}
use Rattle.claims.specs.Stages.{Stage, Own, Owned, Passed, first_of, stage, no_stage, disjoint, book_stages}
use Rattle.claims.proofs.Stages.{at_stage, at_last, own_test, book_owned, else_else}
use Rattle.claims.specs.Wrongs.{First, None}
use Rattle.claims.proofs.WrongTests.{none_is, first-is}
use Rattle.claims.proofs.FaultsOfTables.{given, not-given, with_book}
use Rattle.claims.proofs.Faults.{book_table}
use Rattle.claims.specs.Taken.{Sizes}
use Rattle.claims.specs.FaultsOfTranslation.{TooMany, TooLong, BookTooLong, TranslationTable, in_alternatives, in_names, in_atoms, in_words}

-- ---- the stages

-- the translator's, after those of the sheet
abbrev own_stages : List ℕ → ℕ → List Stage
own_stages s room = stage 13 14 (rule_fault (rules_for s)) ∷ stage 14 15 (size_fault s) ∷ stage 15 16 (room_fault s room) ∷ []

abbrev done_numbers : List ℕ → Numbers
done_numbers s = numbers 0 (length (translated s)) (length (alts_of (rules_for s)))

abbrev done_stage : List ℕ → Stage
done_stage s = stage 0 0 (done_numbers s)

-- a first limit, or else a next
own_limit : (t : Bool) (a : ℕ) (x : Numbers) → Own 14 15 x → Own 14 15 (cond t (numbers 14 a 0) x)
own_limit true a x h = inr (omega arith, omega arith)
own_limit false a x h = h

module _ (s : List ℕ) (room : ℕ) where
  own-owned : Owned (done_stage s ∷ own_stages s room)
  unfolding rule_fault size_fault room_fault
  own-owned =
      let k : ℕ = first too_many (rules_for s) in
      let n : ℕ = length (translated s) in (
        inl refl,
        (
          own_test (ltb k (length (rules_for s))) 13 k 0,
          (
            own_limit (ltb 1024 (length (alts_of (rules_for s)))) 3 _
                (own_limit (ltb 2048 (length (names_of (alts_of (rules_for s))))) 4 _
                (own_limit (ltb 2048 (length (asks_of (alts_of (rules_for s))))) 5 _ (own_limit (ltb 16384 n) 6 no_fault (inl refl)))),
            (own_test (ltb room n) 15 n 0, tt),
          ),
        ),
      )

  -- no two have a number in common
  own-apart : disjoint (done_stage s ∷ book_stages 2 s (own_stages s room)) ≡ true
  unfolding disjoint all
  own-apart = refl

  -- the translator's answer is that of the stages
  in_order : translation s room ≡ first_of (book_stages 2 s (own_stages s room)) (done_numbers s)
  unfolding translation first_of book_fault
  in_order = simp else_else

-- ---- the stages opened

-- the tests of 14, of a book with so many of each
module _ (alternatives names atoms words : ℕ) where
  abbrev sizes : Numbers
  sizes =
      cond (ltb 1024 alternatives) (numbers 14 3 0)
      (cond (ltb 2048 names) (numbers 14 4 0) (cond (ltb 2048 atoms) (numbers 14 5 0) (cond (ltb 16384 words) (numbers 14 6 0) no_fault)))

  size_back : {table : ℕ} → TooLong alternatives names atoms words table → sizes ≡ numbers 14 table 0
  size_back (in_alternatives l) = rw (lt-ltb 1024 alternatives l)
  size_back (in_names a l) = rw (le-ltb 1024 alternatives a, lt-ltb 2048 names l)
  size_back (in_atoms a n l) = rw (le-ltb 1024 alternatives a, le-ltb 2048 names n, lt-ltb 2048 atoms l)
  size_back (in_words a n q l) = rw (le-ltb 1024 alternatives a, le-ltb 2048 names n, le-ltb 2048 atoms q, lt-ltb 16384 words l)

  -- a limit is passed, or none is
  record Within : Type 0 where
    few_alternatives : alternatives ≤ 1024
    few_names : names ≤ 2048
    few_atoms : atoms ≤ 2048
    few_words : words ≤ 16384

  size_cases : ((table : ℕ) × TooLong alternatives names atoms words table) ⊎ Within
  size_cases = by (ltb 1024 alternatives) (ltb 2048 names) (ltb 2048 atoms) (ltb 16384 words) refl refl refl refl
    where
      by : (x y z w : Bool) → ltb 1024 alternatives ≡ x → ltb 2048 names ≡ y → ltb 2048 atoms ≡ z → ltb 16384 words ≡ w
          → ((table : ℕ) × TooLong alternatives names atoms words table) ⊎ Within
      by true y z w a b c d = inl (3, in_alternatives (ltb-true _ _ a))
      by false true z w a b c d = inl (4, in_names (ltb-false _ _ a) (ltb-true _ _ b))
      by false false true w a b c d = inl (5, in_atoms (ltb-false _ _ a) (ltb-false _ _ b) (ltb-true _ _ c))
      by false false false true a b c d = inl (6, in_words (ltb-false _ _ a) (ltb-false _ _ b) (ltb-false _ _ c) (ltb-true _ _ d))
      by false false false false a b c d =
          inr (record { few_alternatives = ltb-false _ _ a; few_names = ltb-false _ _ b; few_atoms = ltb-false _ _ c; few_words = ltb-false _ _ d })

  within_none : Within → sizes ≡ no_fault
  within_none w =
      rw (le-ltb 1024 alternatives w.few_alternatives, le-ltb 2048 names w.few_names, le-ltb 2048 atoms w.few_atoms, le-ltb 16384 words w.few_words)

  size_is : (table : ℕ) → (sizes ≡ numbers 14 table 0) ↔ TooLong alternatives names atoms words table
  size_is table = (
    λ h. ⊎_elim (λ q. subst (TooLong alternatives names atoms words) (ap (λ (r : Numbers). r.a) (sym (size_back q.1) ∙ h)) q.1)
        (λ w. let z = ap (λ (r : Numbers). r.number) (sym (within_none w) ∙ h) in absurd (omega arith)) size_cases,
    size_back,
  )

  size_none : (sizes.number ≡ 0) ↔ Within
  size_none = (
    λ h. ⊎_elim (λ q. let z = ap (λ (r : Numbers). r.number) (size_back q.1) in absurd (omega arith)) (λ w. w) size_cases,
    λ w. ap (λ (r : Numbers). r.number) (within_none w),
  )

module _ (s : List ℕ) (room : ℕ) where
  -- 13
  many_test : (k : ℕ) → (too_many (get_or (rules_for s) k no_rule) ≡ true) ↔ TooMany s k
  unfolding too_many
  many_test k = (ltb-true _ _, lt-ltb _ _)

  many_none : ((rule_fault (rules_for s)).number ≡ 0) ↔ None (length (rules_for s)) (TooMany s)
  unfolding rule_fault
  many_none =
      let k : ℕ = first too_many (rules_for s) in
      let g = not-given 13 (omega arith) (ltb k (length (rules_for s))) k 0 in
      let n = rw (← first-least too_many no_rule (rules_for s)) at
      (none_is (length (rules_for s)) (λ k. too_many (get_or (rules_for s) k no_rule)) (TooMany s) many_test) in
      (λ h. n.0 (g.0 h), λ h. g.1 (n.1 h))

  many_is : (rule : ℕ) → (rule_fault (rules_for s) ≡ numbers 13 rule 0) ↔ First (length (rules_for s)) (TooMany s) rule
  unfolding rule_fault
  many_is rule =
      let k : ℕ = first too_many (rules_for s) in
      let g = given 13 (omega arith) (ltb k (length (rules_for s))) k 0 rule 0 in
      let f = rw (← first-least too_many no_rule (rules_for s)) at
      (first-is (length (rules_for s)) (λ k. too_many (get_or (rules_for s) k no_rule)) (TooMany s) many_test rule) in
      (λ h. let q = g.0 h in f.0 (q.0, q.1), λ h. let q = f.1 h in g.1 (q.0, q.1, refl))

  -- 14
  sizes-none : ((size_fault s).number ≡ 0) ↔ Sizes s
  unfolding size_fault
  sizes-none =
      let n = size_none (length (alts_of (rules_for s))) (length (names_of (alts_of (rules_for s)))) (length (asks_of (alts_of (rules_for s)))) (length (translated s)) in (
        λ h. let w = n.0 h in record { alternatives = w.few_alternatives; names = w.few_names; atoms = w.few_atoms; words = w.few_words },
        λ w. n.1 (record { few_alternatives = w.alternatives; few_names = w.names; few_atoms = w.atoms; few_words = w.words }),
      )

  sizes_are : (table : ℕ) → (size_fault s ≡ numbers 14 table 0) ↔ BookTooLong s table
  unfolding size_fault
  sizes_are = size_is (length (alts_of (rules_for s))) (length (names_of (alts_of (rules_for s)))) (length (asks_of (alts_of (rules_for s)))) (length (translated s))

  -- 15
  room_none : ((room_fault s room).number ≡ 0) ↔ (length (translated s) ≤ room)
  unfolding room_fault
  room_none =
      let g = not-given 15 (omega arith) (ltb room (length (translated s))) (length (translated s)) 0 in
      (λ h. ltb-false _ _ (g.0 h), λ h. g.1 (le-ltb _ _ h))

  room_is : (words : ℕ) → (room_fault s room ≡ numbers 15 words 0) ↔ ((length (translated s) ≡ words) × (room < words))
  unfolding room_fault
  room_is words =
      let g = given 15 (omega arith) (ltb room (length (translated s))) (length (translated s)) 0 words 0 in (
        λ h. let q = g.0 h in let l = ltb-true _ _ q.0 in (q.1, subst (λ n. room < n) q.1 l),
        λ h. g.1 (lt-ltb _ _ (subst (λ n. room < n) (sym h.0) h.1), h.0, refl),
      )

  -- THE THEOREM: the translator's answer is as the table says
  pub translation_faults : TranslationTable s room (translation s room)
  translation_faults =
      rw (in_order s room)
      (record {
        book = book_table 2 s (own_stages s room) (done_stage s) (own-owned s room) (own-apart s room);
        fault_13 = λ k.
            let t = at 4 (numbers 13 k 0) (omega arith) (omega arith) (omega arith) (omega arith) in (
              λ h. let q = t.0 h in (((with_book 2 s).0 q.0).0, (many_is k).0 q.1),
              λ h. t.1 ((with_book 2 s).1 (h.0, tt), (many_is k).1 h.1),
            );
        fault_14 = λ a.
            let t = at 5 (numbers 14 a 0) (omega arith) (omega arith) (omega arith) (omega arith) in (
              λ h.
                  let q = t.0 h in
                  let w = (with_book 2 s).0 q.0 in
                  (w.0, many_none.0 w.1.0, (sizes_are a).0 q.1),
              λ h. t.1 ((with_book 2 s).1 (h.0, (many_none.1 h.1, tt)), (sizes_are a).1 h.2),
            );
        fault_15 = λ a.
            let t = at 6 (numbers 15 a 0) (omega arith) (omega arith) (omega arith) (omega arith) in (
              λ h.
                  let q = t.0 h in
                  let w = (with_book 2 s).0 q.0 in
                  let r = (room_is a).0 q.1 in
                  (w.0, many_none.0 w.1.0, sizes-none.0 w.1.1.0, r.0, r.1),
              λ h. t.1 ((with_book 2 s).1 (h.0, (many_none.1 h.1, (sizes-none.1 h.2, tt))), (room_is a).1 (h.3, h.4)),
            );
        done = λ n a.
            let t = at_last (book_stages 2 s (own_stages s room)) (done_stage s) (numbers 0 n a)
            (book_owned 2 s (own_stages s room) (done_stage s) (own-owned s room)) (own-apart s room) (inl refl) in (
              λ h.
                  let q = t.0 h in
                  let w = (with_book 2 s).0 q.0 in
                  let words = ap (λ (r : Numbers). r.a) q.1 in (
                    w.0,
                    many_none.0 w.1.0,
                    sizes-none.0 w.1.1.0,
                    words,
                    subst (λ k. k ≤ room) words (room_none.0 w.1.1.1.0),
                    ap (λ (r : Numbers). r.b) q.1,
                  ),
              λ h.
                  let l : length (translated s) ≤ room = subst (λ k. k ≤ room) (sym h.3) h.4 in
                  t.1 ((with_book 2 s).1 (h.0, (many_none.1 h.1, (sizes-none.1 h.2, (room_none.1 l, tt)))), rw (h.3, h.5)),
            );
      })
    where
      stages : List Stage
      stages = book_stages 2 s (own_stages s room)

      at : (i : ℕ) (z : Numbers) → i < 7 → (get_or stages i no_stage).low ≤ z.number → z.number < (get_or stages i no_stage).high → 1 ≤ z.number
          → (first_of stages (done_numbers s) ≡ z) ↔ (Passed (take i stages) × ((get_or stages i no_stage).answer ≡ z))
      at i z l = at_stage i stages (done_stage s) z l (book_owned 2 s (own_stages s room) (done_stage s) (own-owned s room)) (own-apart s room)

  -- "A sheet is turned away exactly when it is unsound, passes a stated limit, or the room lent is too short": otherwise it is taken
  pub taken_sound : ((translation s room).number ≡ 0)
      ↔ (Sound 2 s × None (length (rules_for s)) (TooMany s) × Sizes s × (length (translated s) ≤ room))
  taken_sound = (
    λ h.
        let passed = (at_last (book_stages 2 s (own_stages s room)) (done_stage s) (translation s room)
        (book_owned 2 s (own_stages s room) (done_stage s) (own-owned s room)) (own-apart s room) (inl h)).0 (sym (in_order s room)) in
        let w = (with_book 2 s).0 passed.0 in
        (w.0, many_none.0 w.1.0, sizes-none.0 w.1.1.0, room_none.0 w.1.1.1.0),
    λ h. ap (λ (r : Numbers). r.number) ((translation_faults.done _ _).1 (h.0, h.1, h.2, refl, h.3, refl)),
  )
