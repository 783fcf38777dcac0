-- "Refusals: 1 to 4 and 19 first; then 24 for a list not strictly increasing or a number not in the book. All lent tables are untouched then":
-- each answer is given exactly if the stated case is there; "Success is 0 with the book's new words and rule count", the shorter book and its desk
-- list stand in front, and "words past either new end stay". Specimens has an input for each. Assumes nothing.
use mathlib.Core.Path.{◌≡◌, refl, sym, ap, ◌∙◌}
use mathlib.Core.Bool.{Bool, true, false, ◌&&◌, false≢true}
use mathlib.Core.Logic.{◌↔◌}
use mathlib.Core.List.{List, [], ◌∷◌}
use Prim.Native.Nat.{ℕ, zero, suc, ◌+◌, ◌≤◌, ◌<◌}
use native.Mathlib.Decide.{ℕ_discrete}
use native.Mathlib.Omega.{arith}
use lib.Dec.{leb, eqb}
use lib.ListN.{length, take, drop}
use lib.Seq.{take-append_seam, drop-append_seam, take_at, drop_at}
use borrow.Author.Tests.{eq-eqb, ne_eqb, eqb-true, le-leb, leb-true, lt-ltb}
use Rattle.answers.specs.declared.Numbers.{Numbers}
use Rattle.answers.specs.Numbers.{Answer, numbers, numbers_of}
use Rattle.answers.proofs.Stages.{else_fault}
use Rattle.answers.proofs.OneCase.{one_answer}
use Rattle.words.specs.Words.{word}
use Rattle.words.specs.Lists.{all}
use Rattle.layout.specs.Layout.{count}
use Rattle.book.specs.Rules.{rules_of}
use Rattle.book.specs.Encode.{atoms}
use Rattle.book.specs.Sound.{Sound}
use Rattle.book.specs.Fault.{book_fault}
use Rattle.lines.specs.Lines.{line_of}
use Rattle.verdict.specs.Judged.{judged}
use Rattle.claims.specs.Papers.{SatisfiedIn, Satisfies}
use Rattle.claims.proofs.FaultsOfTables.{book_none}
use Rattle.claims.specs.Answers.{Listed, book_length, book_header, book_end, book_record, plan_length, plan_header, plan_end, unknown, outside, breaks, late, apart, unmet, accepted}
use Rattle.claims.proofs.Answers.{judged-listed}
use Rattle.claims.specs.Accepted.{Solution, Examined}
use Rattle.desks.specs.List.{list_right}
use Rattle.desks.proofs.Lists.{all-at, at_all}
use Rattle.closing.proofs.Joined.{counts}
use Rattle.removal.specs.Removed.{kept, removed_book, in_front}
use Rattle.removal.specs.Removal.{rising, removal, book_after, desks_after}
use Rattle.removal.proofs.Rising.{risen}
use Rattle.removal.proofs.Outcome.{bad_by, no_desk, no_rules_lem, answered}
use Rattle.removal_claims.proofs.Removed.{kept-long, removed_accepted, removed_count, removed_good, removed_desks}
use Rattle.removal_claims.specs.Answers.{Numbered, DeskList}

-- ---- the two tests

record From (from n : ℕ) (list : List ℕ) : Type 0 where
  low : 0 < length list → from ≤ word list 0
  numbered : Numbered n list

rising-to : (from n : ℕ) (xs : List ℕ) → rising from n xs ≡ true → From from n xs
rising-to from n [] h =
    record { low = λ l. absurd (omega arith); numbered = record { increasing = λ k l. absurd (omega arith); in_book = λ k l. absurd (omega arith) } }
rising-to from n (x ∷ xs) h =
    let r = risen from n x xs h in
    let q = rising-to (x + 1) n xs r.rest in
    record {
      low = λ l. r.low;
      numbered = record {
        increasing = elim [ zero ↦ λ l. omega (arith, q.low (omega arith)) | suc k ↦ λ l. q.numbered.increasing k (omega arith) ];
        in_book = elim [ zero ↦ λ l. r.high | suc k ↦ λ l. q.numbered.in_book k (omega arith) ];
      };
    }

rising-back : (from n : ℕ) (xs : List ℕ) → From from n xs → rising from n xs ≡ true
unfolding rising
rising-back from n [] h = refl
rising-back from n (x ∷ xs) h =
    let low : from ≤ x = h.low (omega arith) in
    let high : x < n = h.numbered.in_book 0 (omega arith) in
    let rest : From (x + 1) n xs = record {
      low = λ l. omega (arith, h.numbered.increasing 0 (omega arith));
      numbered = record {
        increasing = λ k l. h.numbered.increasing (suc k) (omega arith);
        in_book = λ k l. h.numbered.in_book (suc k) (omega arith);
      };
    } in
    rw (le-leb from x low, lt-ltb x n high, rising-back (x + 1) n xs rest)

pub rising-iff : (n : ℕ) (list : List ℕ) → (rising 0 n list ≡ true) ↔ Numbered n list
rising-iff n list = (λ h. (rising-to 0 n list h).numbered, λ h. rising-back 0 n list (record { low = λ l. omega arith; numbered = h }))

pub desks-iff : (b d : List ℕ) → (list_right b d ≡ true) ↔ DeskList b d
unfolding list_right
desks-iff b d = (
  λ h. by (eqb (length d) (count b 2)) (all (λ w. leb w 1) d) refl refl h,
  λ h. rw (eq-eqb (length d) (count b 2) h.long, all-at (λ w. leb w 1) 0 d (λ i l. le-leb (word d i) 1 (h.low i l))),
)
  where
    by : (s t : Bool) → eqb (length d) (count b 2) ≡ s → all (λ w. leb w 1) d ≡ t → (s && t) ≡ true → DeskList b d
    by true true e q h = record { long = eqb-true _ _ e; low = λ k l. leb-true (word d k) 1 (at_all (λ w. leb w 1) 0 d q k l) }
    by true false e q h = absurd (false≢true h)
    by false t e q h = absurd (false≢true h)

-- a test that doesn't hold
fails : {P : Type 0} (t : Bool) → (t ≡ true) ↔ P → (P → ⊥) → t ≡ false
fails true i n = absurd (n (i.0 refl))
fails false i n = refl

-- a book's own numbers are among those that the judge gives
judge-most : {x : Numbers} → Listed x → x.number ≤ 18
judge-most book_length = omega arith
judge-most (book_header w) = omega arith
judge-most book_end = omega arith
judge-most (book_record t r w) = omega arith
judge-most plan_length = omega arith
judge-most (plan_header w) = omega arith
judge-most plan_end = omega arith
judge-most (unknown l t) = omega arith
judge-most (outside l t) = omega arith
judge-most (breaks l t) = omega arith
judge-most (late l t) = omega arith
judge-most (apart l) = omega arith
judge-most (unmet r t) = omega arith
judge-most (accepted n) = omega arith

-- ---- THE CLAIMS

module _ (b d list : List ℕ) where
  abbrev number : ℕ
  number = (removal b d list).number

  -- "1 to 4" are the book's own, with their places
  pub book_first : ((book_fault 1 b).number ≡ 0 → ⊥) → removal b d list ≡ book_fault 1 b
  book_first h = sym (bad_by b d list (book_fault 1 b) (book_fault 1 b) refl refl h).0

  bad-number : ((book_fault 1 b).number ≡ 0 → ⊥) → (1 ≤ number) × (number ≤ 18)
  unfolding judged
  bad-number h =
      let e : number ≡ (book_fault 1 b).number = ap (λ (n : Numbers). n.number) (book_first h) in
      let same : judged b [] ≡ book_fault 1 b = else_fault (book_fault 1 b) _ h in
      let most : (book_fault 1 b).number ≤ 18 = rw (← same) (judge-most (judged-listed b [])) in
      (omega (arith, h), omega arith)

  desk-number : (book_fault 1 b).number ≡ 0 → list_right b d ≡ false → number ≡ 19
  desk-number z h = sym (ap (λ (n : Numbers). n.number) (no_desk b d list (book_fault 1 b) (book_fault 1 b) refl refl z false (sym h) refl).0)

  list-number : (book_fault 1 b).number ≡ 0 → list_right b d ≡ true → rising 0 (count b 2) list ≡ false → number ≡ 24
  list-number z h r =
      sym (ap (λ (n : Numbers). n.number)
      (no_rules_lem b d list (book_fault 1 b) (book_fault 1 b) refl refl z true (sym h) refl (count b 2) false refl (sym r) refl).0)

  done-answer : (book_fault 1 b).number ≡ 0 → list_right b d ≡ true → rising 0 (count b 2) list ≡ true
      → removal b d list ≡ numbers 0 (length (removed_book b list)) (length (kept list 0 (rules_of atoms b)))
  done-answer z h r = answered b d list (book_fault 1 b) (book_fault 1 b) refl refl z true (sym h) refl (count b 2) true refl (sym r) refl

  -- one of the four cases is there
  cases : (P : Type 0) → (((book_fault 1 b).number ≡ 0 → ⊥) → P) → ((book_fault 1 b).number ≡ 0 → list_right b d ≡ false → P)
      → ((book_fault 1 b).number ≡ 0 → list_right b d ≡ true → rising 0 (count b 2) list ≡ false → P)
      → ((book_fault 1 b).number ≡ 0 → list_right b d ≡ true → rising 0 (count b 2) list ≡ true → P) → P
  cases P bad desk none good =
      elim (ℕ_discrete (book_fault 1 b).number 0) [ no n ↦ bad n | yes z ↦ by z (list_right b d) (rising 0 (count b 2) list) refl refl ]
    where
      by : (book_fault 1 b).number ≡ 0 → (s t : Bool) → list_right b d ≡ s → rising 0 (count b 2) list ≡ t → P
      by z false t p q = desk z p
      by z true false p q = none z p q
      by z true true p q = good z p q

  -- 19 "for a list of the wrong length, a word over 1"
  pub answer-19 : (number ≡ 19) ↔ (((book_fault 1 b).number ≡ 0) × (DeskList b d → ⊥))
  answer-19 = (
    λ q. cases _ (λ n. absurd (omega (arith, (bad-number n).1)))
        (λ z h. (z, λ k. false≢true (sym h ∙ (desks-iff b d).1 k)))
        (λ z h r. absurd (omega (arith, list-number z h r)))
        (λ z h r. absurd (omega (arith, ap (λ (n : Numbers). n.number) (done-answer z h r)))),
    λ p. desk-number p.0 (fails (list_right b d) (desks-iff b d) p.1),
  )

  -- "then 24 for a list not strictly increasing or a number not in the book"
  pub answer-24 : (number ≡ 24) ↔ (((book_fault 1 b).number ≡ 0) × DeskList b d × (Numbered (count b 2) list → ⊥))
  answer-24 = (
    λ q. cases _ (λ n. absurd (omega (arith, (bad-number n).1)))
        (λ z h. absurd (omega (arith, desk-number z h)))
        (λ z h r. (z, (desks-iff b d).0 h, λ k. false≢true (sym r ∙ (rising-iff (count b 2) list).1 k)))
        (λ z h r. absurd (omega (arith, ap (λ (n : Numbers). n.number) (done-answer z h r)))),
    λ p. list-number p.0 ((desks-iff b d).1 p.1) (fails (rising 0 (count b 2) list) (rising-iff (count b 2) list) p.2),
  )

  -- and 0 for all else
  pub answer-0 : (number ≡ 0) ↔ (((book_fault 1 b).number ≡ 0) × DeskList b d × Numbered (count b 2) list)
  answer-0 = (
    λ q. cases _ (λ n. absurd (omega (arith, (bad-number n).0)))
        (λ z h. absurd (omega (arith, desk-number z h)))
        (λ z h r. absurd (omega (arith, list-number z h r)))
        (λ z h r. (z, (desks-iff b d).0 h, (rising-iff (count b 2) list).0 r)),
    λ p. ap (λ (n : Numbers). n.number) (done-answer p.0 ((desks-iff b d).1 p.1) ((rising-iff (count b 2) list).1 p.2)),
  )

  -- "Success is 0 with the book's new words and rule count"
  pub success : number ≡ 0 → removal b d list ≡ numbers 0 (length (removed_book b list)) (length (kept list 0 (rules_of atoms b)))
  success q = let p = answer-0.0 q in done-answer p.0 ((desks-iff b d).1 p.1) ((rising-iff (count b 2) list).1 p.2)

  -- "All lent tables are untouched then"
  pub untouched : (number ≡ 0 → ⊥) → (book_after b d list ≡ b) × (desks_after b d list ≡ d)
  unfolding book_after desks_after
  untouched h = rw (ne_eqb number 0 h) (refl, refl)

  -- ---- done

  module _ (q : number ≡ 0) where
    taken_sound : Sound 1 b
    taken_sound = (book_none 1 b).0 (answer-0.0 q).0

    -- the shorter book is in front
    book_front : take (removal b d list).a (book_after b d list) ≡ removed_book b list
    unfolding book_after in_front
    book_front = rw (eq-eqb number 0 q, success q) (take-append_seam (removed_book b list) _)

    -- the book's new words are those of the shorter book, and "words past .. new end stay"
    pub book-words : (take (removal b d list).a (book_after b d list) ≡ removed_book b list)
        × (drop (removal b d list).a (book_after b d list) ≡ drop (removal b d list).a b)
    unfolding book_after in_front
    book-words = (book_front, rw (eq-eqb number 0 q, success q) (drop-append_seam (removed_book b list) _))

    -- and the desk list's are those of the kept rules
    pub desk-words : (take (removal b d list).b (desks_after b d list) ≡ kept list 0 d)
        × (drop (removal b d list).b (desks_after b d list) ≡ drop (removal b d list).b d)
    unfolding desks_after in_front
    desk-words =
        let many = kept-long list 0 d (rules_of atoms b) ((answer-0.0 q).1.long ∙ sym (counts taken_sound).rules) in
        rw (eq-eqb number 0 q, success q)
        (take_at (kept list 0 d) _ _ many, drop_at (kept list 0 d) _ _ many ∙ ap (λ (n : ℕ). drop n d) many)

    -- they are a right book with a right list
    pub written-right : ((book_fault 1 (take (removal b d list).a (book_after b d list))).number ≡ 0)
        × (list_right (take (removal b d list).a (book_after b d list)) (take (removal b d list).b (desks_after b d list)) ≡ true)
    written-right =
        rw (book_front, desk-words.0)
        (ap (λ (n : Numbers). n.number) (removed_good b taken_sound list), removed_desks b taken_sound list d ((desks-iff b d).1 (answer-0.0 q).1))

    -- "A plan passes the shorter book exactly if it passes 1 to 11 and 18 and meets each kept rule", said of the lent words
    pub written-accepted : (p : List ℕ)
        → ((judged (take (removal b d list).a (book_after b d list)) p).number ≡ 0)
        ↔ Solution 1 b p (kept list 0 (rules_of atoms b)) (Satisfies (SatisfiedIn (line_of p)) (line_of p))
    written-accepted p = rw book_front (removed_accepted b taken_sound list p)

    -- and what it then counts
    pub written_count : (p : List ℕ) (n : ℕ)
        → (judged (take (removal b d list).a (book_after b d list)) p ≡ numbers 0 n 0)
        ↔ (Solution 1 b p (kept list 0 (rules_of atoms b)) (Satisfies (SatisfiedIn (line_of p)) (line_of p)) × Examined (line_of p) (kept list 0 (rules_of atoms b)) n)
    written_count p n = rw book_front (removed_count b taken_sound list p n)

-- two answers that the contract of `remove_rules` permits are equal; the lent words it says by equations
pub remove-one : (b d list : List ℕ) (r s : Answer) → numbers_of r ≡ removal b d list → numbers_of s ≡ removal b d list → r ≡ s
remove-one b d list = one_answer (removal b d list)
