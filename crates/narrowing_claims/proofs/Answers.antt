-- "Refusals: 1 to 4, 27 as in L12, then 25 for a lent table too short; the table is untouched by all of these": each answer is given exactly
-- if the stated case is there, words past the table stay, and refused all do. Assumes nothing.
use mathlib.Core.Path.{◌≡◌, sym, ap, ◌∙◌}
use mathlib.Core.Bool.{Bool, true, false, ◌||◌, cond}
use mathlib.Core.Logic.{◌↔◌}
use mathlib.Core.List.{List}
use Prim.Native.Nat.{ℕ, ◌≤◌, ◌<◌}
use native.Mathlib.Decide.{dec_le, ℕ_discrete}
use native.Mathlib.Omega.{arith}
use lib.Dec.{ltb, eqb}
use lib.ListN.{length}
use Rattle.answers.specs.declared.Numbers.{Numbers}
use Rattle.answers.specs.Numbers.{numbers, no_fault, or_else}
use Rattle.answers.proofs.Stages.{else_fault}
use Rattle.words.specs.Words.{word}
use Rattle.layout.specs.Layout.{count, ending}
use Rattle.book.specs.Fault.{first_header, first_table, length_fault, header_fault, end_fault, record_fault, book_fault, record_numbers}
use Rattle.narrowing.specs.Sheet.{words_for, narrowing, table_after}
use Rattle.narrowing.proofs.Sheets.{no_alternative_lem, too_short, done, answered, first_past, table-narrowed, refused_stays}

-- ---- the sheet's own numbers are 1 to 4

given : (t : Bool) (k n a b : ℕ) → n ≤ k → (cond t (numbers n a b) no_fault).number ≤ k
given true k n a b h = h
given false k n a b h = omega arith

any-given : (t : Bool) (k : ℕ) (x : Numbers) → x.number ≤ k → (cond t x no_fault).number ≤ k
any-given true k x h = h
any-given false k x h = omega arith

kept : (t : Bool) (k n a b : ℕ) → n ≤ k → (cond t no_fault (numbers n a b)).number ≤ k
kept true k n a b h = omega arith
kept false k n a b h = h

either : (t : Bool) (k : ℕ) (x y : Numbers) → x.number ≤ k → y.number ≤ k → (cond t y x).number ≤ k
either true k x y h l = l
either false k x y h l = h

else-most : (k : ℕ) (x y : Numbers) → x.number ≤ k → y.number ≤ k → (or_else x y).number ≤ k
unfolding or_else
else-most k x y h l = either (eqb x.number 0) k x y h l

module _ (s : List ℕ) where
  length_most : (length_fault s).number ≤ 4
  unfolding length_fault
  length_most = given (ltb (length s) 14 || ltb 16384 (length s)) 4 1 0 0 (omega arith)

  header-most : (header_fault 2 s).number ≤ 4
  unfolding header_fault
  header-most = given (ltb (first_header 2 s) 14) 4 2 (first_header 2 s) 0 (omega arith)

  end-most : (end_fault 2 s).number ≤ 4
  unfolding end_fault
  end-most = kept (eqb (ending 2 s 5) (length s)) 4 3 0 0 (omega arith)

  record-most : (record_fault 2 s).number ≤ 4
  unfolding record_fault
  record-most = any-given (ltb (first_table 2 s) 6) 4 (record_numbers 2 s (first_table 2 s)) (omega arith)

  sheet-numbers : (book_fault 2 s).number ≤ 4
  unfolding book_fault
  sheet-numbers = else-most 4 _ _ length_most (else-most 4 _ _ header-most (else-most 4 _ _ end-most record-most))

-- ---- THE CLAIMS

module _ (s : List ℕ) (a : ℕ) (m : List ℕ) where
  abbrev number : ℕ
  number = (narrowing s a (length m)).number

  -- "1 to 4" are the sheet's own, with their places
  pub sheet-first : ((book_fault 2 s).number ≡ 0 → ⊥) → narrowing s a (length m) ≡ book_fault 2 s
  unfolding narrowing
  sheet-first h = else_fault (book_fault 2 s) _ h

  -- one of the four cases is there
  cases : (P : Type 0) → (((book_fault 2 s).number ≡ 0 → ⊥) → P) → ((book_fault 2 s).number ≡ 0 → count s 3 ≤ a → P)
      → ((book_fault 2 s).number ≡ 0 → a < count s 3 → length m < words_for s a → P) → ((book_fault 2 s).number ≡ 0 → a < count s 3 → words_for s a ≤ length m → P) → P
  cases P bad none short good =
      elim (ℕ_discrete (book_fault 2 s).number 0) [
        | no n ↦ bad n
        | yes z ↦ elim (dec_le (count s 3) a) [
          | yes h ↦ none z h
          | no n ↦ elim (dec_le (words_for s a) (length m)) [ yes h ↦ good z (omega arith) h | no k ↦ short z (omega arith) (omega arith) ]
        ]
      ]

  -- and each has its number
  bad-number : ((book_fault 2 s).number ≡ 0 → ⊥) → (1 ≤ number) × (number ≤ 4)
  bad-number h =
      let e : number ≡ (book_fault 2 s).number = ap (λ (n : Numbers). n.number) (sheet-first h) in
      (omega (arith, h), omega (arith, sheet-numbers s))

  none_number : (book_fault 2 s).number ≡ 0 → count s 3 ≤ a → number ≡ 27
  none_number z h = sym (ap (λ (n : Numbers). n.number) (no_alternative_lem s a m z h).0)

  short-number : (book_fault 2 s).number ≡ 0 → a < count s 3 → length m < words_for s a → number ≡ 25
  short-number z l h = sym (ap (λ (n : Numbers). n.number) (too_short s a m z l h).0)

  done-number : (book_fault 2 s).number ≡ 0 → a < count s 3 → words_for s a ≤ length m → number ≡ 0
  done-number z l h = sym (ap (λ (n : Numbers). n.number) (done s a m z l h).0)

  -- "27 for an alternative number that the book hasn't got"
  pub answer-27 : (number ≡ 27) ↔ (((book_fault 2 s).number ≡ 0) × (count s 3 ≤ a))
  answer-27 = (
    λ q. cases _ (λ b. absurd (omega (arith, (bad-number b).1))) (λ z h. (z, h)) (λ z l h. absurd (omega (arith, short-number z l h))) (λ z l h. absurd (omega (arith, done-number z l h))),
    λ p. none_number p.0 p.1,
  )

  -- "then 25 for a lent table too short"
  pub answer-25 : (number ≡ 25) ↔ (((book_fault 2 s).number ≡ 0) × (a < count s 3) × (length m < words_for s a))
  answer-25 = (
    λ q. cases _ (λ b. absurd (omega (arith, (bad-number b).1))) (λ z h. absurd (omega (arith, none_number z h))) (λ z l h. (z, l, h)) (λ z l h. absurd (omega (arith, done-number z l h))),
    λ p. short-number p.0 p.1 p.2,
  )

  -- and 0 for all else
  pub answer-0 : (number ≡ 0) ↔ (((book_fault 2 s).number ≡ 0) × (a < count s 3) × (words_for s a ≤ length m))
  answer-0 = (
    λ q. cases _ (λ b. absurd (omega (arith, (bad-number b).0))) (λ z h. absurd (omega (arith, none_number z h))) (λ z l h. absurd (omega (arith, short-number z l h))) (λ z l h. (z, l, h)),
    λ p. done-number p.0 p.1 p.2,
  )

  -- "words past it stay"
  pub past-stays : number ≡ 0 → (p : ℕ) → words_for s a ≤ p → word (table_after s a m) p ≡ word m p
  unfolding words_for
  past-stays z p h = (table-narrowed s a m z).cut.rest p h ∙ first_past s a m (answered s a (length m) z) p h

  -- "the table is untouched by all of these"
  pub untouched : (number ≡ 0 → ⊥) → table_after s a m ≡ m
  untouched h = refused_stays s a m h
