-- Which answer is given when: "those of the judge to 18 for writing, then 21 for short room with the words needed; for reading, 1 to 4, then 20
-- for any list that the writer could not have made, with no place, then 21. The room is untouched then". Assumes nothing.
use mathlib.Core.Path.{◌≡◌, refl, sym, ap, ◌∙◌}
use mathlib.Core.Bool.{Bool, true, false, ◌&&◌, ◌||◌, not, cond, true≢false}
use mathlib.Core.Logic.{◌↔◌, ◌⊎◌, inl, inr}
use mathlib.Core.List.{List, ◌++◌}
use Prim.Native.Nat.{ℕ, ◌+◌, ◌-◌, ◌*◌, ◌≤◌, ◌<◌}
use native.Mathlib.Decide.{dec_le, ℕ_discrete}
use native.Mathlib.Omega.{arith}
use lib.Dec.{ltb, eqb}
use lib.ListN.{length, drop}
use borrow.Author.Tests.{lt-ltb, le-ltb, eq-eqb, ne_eqb}
use Rattle.answers.specs.declared.Numbers.{Numbers}
use Rattle.answers.specs.Numbers.{numbers, no_fault, or_else}
use Rattle.answers.proofs.Stages.{else_fault, else_next}
use Rattle.layout.specs.Layout.{count, ending}
use Rattle.clock.specs.Clock.{last_tick}
use Rattle.records.specs.Wrong.{value_unknown}
use Rattle.book.specs.Fault as book
use Rattle.lines.specs.Fault.{sum_before, first_head}
use Rattle.lines.specs.Lines.{token_width}
use Rattle.lines.specs.Ends.{first_apart, ends_fault}
use Rattle.plan.specs.Fault as plan
use Rattle.verdict.specs.Judged.{judged}
use Rattle.event_list.specs.Plans.{list_of}
use Rattle.event_list.specs.Reading.{plan_from}
use Rattle.event_list.specs.Answers.{Made, write_fault, room_fault, into, room_after, written_events, written_room, could_be_written, list_fault, read_events, read_room}
use Rattle.event_list.proofs.Again.{could_iff}
use Rattle.events_claims.specs.Answers.{Fits}

into-short : (ws room : List ℕ) → length room < length ws → into ws (length room) ≡ numbers 21 (length ws) 0
unfolding into room_fault or_else
into-short ws room h = rw (lt-ltb _ _ h)

into-fits : (ws room : List ℕ) → Fits ws room → into ws (length room) ≡ numbers 0 (length ws) 0
unfolding into room_fault or_else
into-fits ws room h = rw (le-ltb _ _ h)

-- the room afterwards, by the answer's number
after-0 : (n : Numbers) (ws room : List ℕ) → n.number ≡ 0 → room_after n ws room ≡ ws ++ drop (length ws) room
unfolding room_after
after-0 n ws room h = rw (eq-eqb _ _ h)

after-refused : (n : Numbers) (ws room : List ℕ) → (n.number ≡ 0 → ⊥) → room_after n ws room ≡ room
unfolding room_after
after-refused n ws room h = rw (ne_eqb _ _ h)

-- ---- the book's numbers are 1 to 4, the plan's 5 to 11 and 18

given : (t : Bool) (k : ℕ) (x : Numbers) → x.number ≤ k → (cond t x no_fault).number ≤ k
given true k x h = h
given false k x h = omega arith

kept : (t : Bool) (k : ℕ) (x : Numbers) → x.number ≤ k → (cond t no_fault x).number ≤ k
kept true k x h = omega arith
kept false k x h = h

else-most : (k : ℕ) (x y : Numbers) → x.number ≤ k → y.number ≤ k → (or_else x y).number ≤ k
unfolding or_else
else-most k x y h l = either (eqb x.number 0)
  where
    either : (t : Bool) → (cond t y x).number ≤ k
    either true = l
    either false = h

pub book-numbers : (b : List ℕ) → (book.book_fault 1 b).number ≤ 4
unfolding book.book_fault book.length_fault book.header_fault book.end_fault book.record_fault
book-numbers b =
    else-most 4 _ _ (given (ltb (length b) 14 || ltb 16384 (length b)) 4 (numbers 1 0 0) (omega arith))
    (else-most 4 _ _ (given (ltb (book.first_header 1 b) 14) 4 (numbers 2 (book.first_header 1 b) 0) (omega arith))
    (else-most 4 _ _ (kept (eqb (ending 1 b 5) (length b)) 4 (numbers 3 0 0) (omega arith))
    (given (ltb (book.first_table 1 b) 6) 4 (book.record_numbers 1 b (book.first_table 1 b)) (omega arith))))

token-number : (t8 t9 t10 t11 : Bool) → cond t8 8 (cond t9 9 (cond t10 10 (cond t11 11 0))) ≤ 18
token-number true t9 t10 t11 = omega arith
token-number false true t10 t11 = omega arith
token-number false false true t11 = omega arith
token-number false false false true = omega arith
token-number false false false false = omega arith

token-most : (b p : List ℕ) (v j : ℕ) → plan.token_fault b p v j ≤ 18
unfolding plan.token_fault
token-most b p v j =
    let x : ℕ = plan.value_of p v j in
    token-number (value_unknown 1 b v x) (plan.duration_outside b (plan.value_place b v x) (plan.duration_of p v j))
    (not (eqb j 0) && plan.not_successor b (plan.value_place b v (plan.value_of p v (j - 1))) x)
    (ltb last_tick (plan.start_of p v j + plan.duration_of p v j))

pub plan-numbers : (b p : List ℕ) → (plan.plan_fault b p).number ≤ 18
unfolding plan.plan_fault plan.length_fault plan.head_fault plan.end_fault plan.tokens_fault ends_fault
plan-numbers b p =
    else-most 18 _ _ (given (ltb (length p) (3 + 2 * count b 0) || ltb 16384 (length p)) 18 (numbers 5 0 0) (omega arith))
    (else-most 18 _ _ (given (ltb (first_head b p) (3 + 2 * count b 0)) 18 (numbers 6 (first_head b p) 0) (omega arith))
    (else-most 18 _ _ (kept (eqb (3 + 2 * count b 0 + token_width p * sum_before p (count b 0)) (length p)) 18 (numbers 7 0 0) (omega arith))
    (else-most 18 _ _ (given (ltb (plan.first_line b p) (count b 0)) 18 (plan.line_fault b p (plan.first_line b p))
    (token-most b p (plan.first_line b p) (plan.first_token b p (plan.first_line b p))))
    (given (ltb (first_apart b p) (count b 0)) 18 (numbers 18 (first_apart b p) 0) (omega arith)))))

-- ---- writing

module _ (b p : List ℕ) (room : List ℕ) where
  abbrev written : Numbers
  written = written_events b p (length room)

  -- 1 to 4 are the book's, with their places; 5 to 11 and 18 the plan's
  pub write-book : ((book.book_fault 1 b).number ≡ 0 → ⊥) → written ≡ book.book_fault 1 b
  unfolding written_events write_fault
  write-book h = ap (λ (x : Numbers). or_else x (into (list_of p) (length room))) (else_fault _ _ h) ∙ else_fault _ _ h

  pub write-plan : (book.book_fault 1 b).number ≡ 0 → ((plan.plan_fault b p).number ≡ 0 → ⊥) → written ≡ plan.plan_fault b p
  unfolding written_events write_fault
  write-plan h k = ap (λ (x : Numbers). or_else x (into (list_of p) (length room))) (else_next _ _ h) ∙ else_fault _ _ k

  -- the judge's own first stages
  judged-book : ((book.book_fault 1 b).number ≡ 0 → ⊥) → judged b p ≡ book.book_fault 1 b
  unfolding judged
  judged-book h = else_fault _ _ h

  judged-plan : (book.book_fault 1 b).number ≡ 0 → ((plan.plan_fault b p).number ≡ 0 → ⊥) → judged b p ≡ plan.plan_fault b p
  unfolding judged
  judged-plan h k = else_next _ _ h ∙ else_fault _ _ k

  none : (book.book_fault 1 b).number ≡ 0 → (plan.plan_fault b p).number ≡ 0 → (write_fault b p).number ≡ 0
  unfolding write_fault
  none h k = ap (λ (n : Numbers). n.number) (else_next _ _ h) ∙ k

  -- "those of the judge to 18"
  pub write-as-judged : ((write_fault b p).number ≡ 0 → ⊥) → written ≡ judged b p
  write-as-judged h =
      elim (ℕ_discrete (book.book_fault 1 b).number 0) [
        | no n ↦ write-book n ∙ sym (judged-book n)
        | yes z ↦ elim (ℕ_discrete (plan.plan_fault b p).number 0) [ no n ↦ write-plan z n ∙ sym (judged-plan z n) | yes k ↦ absurd (h (none z k)) ]
      ]

  -- both pass
  passed : (book.book_fault 1 b).number ≡ 0 → (plan.plan_fault b p).number ≡ 0 → written ≡ into (list_of p) (length room)
  unfolding written_events write_fault
  passed h k = ap (λ (x : Numbers). or_else x (into (list_of p) (length room))) (else_next _ _ h) ∙ else_next _ _ k

  short : (book.book_fault 1 b).number ≡ 0 → (plan.plan_fault b p).number ≡ 0 → length room < length (list_of p)
      → written ≡ numbers 21 (length (list_of p)) 0
  short h k l = passed h k ∙ into-short (list_of p) room l

  done : (book.book_fault 1 b).number ≡ 0 → (plan.plan_fault b p).number ≡ 0 → Fits (list_of p) room → written ≡ numbers 0 (length (list_of p)) 0
  done h k l = passed h k ∙ into-fits (list_of p) room l

  -- one of the four cases is there
  write-cases : (P : Type 0) → (((book.book_fault 1 b).number ≡ 0 → ⊥) → P)
      → ((book.book_fault 1 b).number ≡ 0 → ((plan.plan_fault b p).number ≡ 0 → ⊥) → P)
      → ((book.book_fault 1 b).number ≡ 0 → (plan.plan_fault b p).number ≡ 0 → length room < length (list_of p) → P)
      → ((book.book_fault 1 b).number ≡ 0 → (plan.plan_fault b p).number ≡ 0 → Fits (list_of p) room → P) → P
  write-cases P bad wrong few good =
      elim (ℕ_discrete (book.book_fault 1 b).number 0) [
        | no n ↦ bad n
        | yes z ↦ elim (ℕ_discrete (plan.plan_fault b p).number 0) [
          | no n ↦ wrong z n
          | yes k ↦ elim (dec_le (length (list_of p)) (length room)) [ yes l ↦ good z k l | no l ↦ few z k (omega arith) ]
        ]
      ]

  abbrev number_of : Numbers → ℕ
  number_of n = n.number

  -- what 21 says
  at-21 : written.number ≡ 21 → ((book.book_fault 1 b).number ≡ 0) × ((plan.plan_fault b p).number ≡ 0) × (length room < length (list_of p))
  at-21 q =
      write-cases _ (λ n. absurd (omega (arith, book-numbers b, ap number_of (write-book n))))
      (λ z n. absurd (omega (arith, plan-numbers b p, ap number_of (write-plan z n))))
      (λ z k l. (z, k, l))
      (λ z k l. absurd (omega (arith, ap number_of (done z k l))))

  -- "21 for short room with the words needed": exactly if book and plan pass and the room is too short
  pub write-21 : (written.number ≡ 21) ↔ (((book.book_fault 1 b).number ≡ 0) × ((plan.plan_fault b p).number ≡ 0) × (length room < length (list_of p)))
  write-21 = (at-21, λ h. ap number_of (short h.0 h.1 h.2))

  pub write-needed : written.number ≡ 21 → written ≡ numbers 21 (length (list_of p)) 0
  write-needed q = let h = at-21 q in short h.0 h.1 h.2

  -- 0 exactly if all is well
  pub write-0 : (written.number ≡ 0) ↔ (((book.book_fault 1 b).number ≡ 0) × ((plan.plan_fault b p).number ≡ 0) × Fits (list_of p) room)
  write-0 = (
    λ q.
        write-cases _ (λ n. absurd (n (sym (ap number_of (write-book n)) ∙ q)))
        (λ z n. absurd (n (sym (ap number_of (write-plan z n)) ∙ q)))
        (λ z k l. absurd (omega (arith, ap number_of (short z k l))))
        (λ z k l. (z, k, l)),
    λ h. ap number_of (done h.0 h.1 h.2),
  )

  -- "Success is 0 with the words written, and later words stay"
  pub written-done : written.number ≡ 0 → (written ≡ numbers 0 (length (list_of p)) 0) ×
      (written_room b p room ≡ list_of p ++ drop (length (list_of p)) room)
  unfolding written_room
  written-done q = let h = write-0.0 q in (done h.0 h.1 h.2, after-0 written (list_of p) room q)

  -- "The room is untouched then"
  pub write-untouched : (written.number ≡ 0 → ⊥) → written_room b p room ≡ room
  unfolding written_room
  write-untouched h = after-refused written (list_of p) room h

-- ---- reading

module _ (b w : List ℕ) (room : List ℕ) where
  abbrev read : Numbers
  read = read_events b w (length room)

  -- the list's test, with the book's
  list-made : (book.book_fault 1 b).number ≡ 0 → Made b w → list_fault b w ≡ no_fault
  unfolding list_fault
  list-made z m = rw ((could_iff b z w).1 m)

  list-not : (book.book_fault 1 b).number ≡ 0 → (Made b w → ⊥) → list_fault b w ≡ numbers 20 0 0
  unfolding list_fault
  list-not z n = by (could_be_written b w) refl
    where
      by : (t : Bool) → could_be_written b w ≡ t → cond t no_fault (numbers 20 0 0) ≡ numbers 20 0 0
      by true e = absurd (n ((could_iff b z w).0 e))
      by false e = refl

  -- 1 to 4 are the book's, with their places
  pub read-book : ((book.book_fault 1 b).number ≡ 0 → ⊥) → read ≡ book.book_fault 1 b
  unfolding read_events
  read-book h = else_fault _ _ h

  -- "20 for any list that the writer could not have made, with no place"
  unmade : (book.book_fault 1 b).number ≡ 0 → (Made b w → ⊥) → read ≡ numbers 20 0 0
  unfolding read_events or_else
  unmade z n = else_next _ _ z ∙ rw (list-not z n)

  made : (book.book_fault 1 b).number ≡ 0 → Made b w → read ≡ into (plan_from b w) (length room)
  unfolding read_events or_else
  made z m = else_next _ _ z ∙ rw (list-made z m)

  read_short : (book.book_fault 1 b).number ≡ 0 → Made b w → length room < length (plan_from b w) → read ≡ numbers 21 (length (plan_from b w)) 0
  read_short z m l = made z m ∙ into-short (plan_from b w) room l

  read-good : (book.book_fault 1 b).number ≡ 0 → Made b w → Fits (plan_from b w) room → read ≡ numbers 0 (length (plan_from b w)) 0
  read-good z m l = made z m ∙ into-fits (plan_from b w) room l

  -- whether the writer could have made it is decided
  decided : (book.book_fault 1 b).number ≡ 0 → Made b w ⊎ (Made b w → ⊥)
  decided z = by (could_be_written b w) refl
    where
      by : (t : Bool) → could_be_written b w ≡ t → Made b w ⊎ (Made b w → ⊥)
      by true e = inl ((could_iff b z w).0 e)
      by false e = inr (λ m. true≢false (sym ((could_iff b z w).1 m) ∙ e))

  read-cases : (P : Type 0) → (((book.book_fault 1 b).number ≡ 0 → ⊥) → P) → ((book.book_fault 1 b).number ≡ 0 → (Made b w → ⊥) → P)
      → ((book.book_fault 1 b).number ≡ 0 → Made b w → length room < length (plan_from b w) → P)
      → ((book.book_fault 1 b).number ≡ 0 → Made b w → Fits (plan_from b w) room → P) → P
  read-cases P bad wrong few good =
      elim (ℕ_discrete (book.book_fault 1 b).number 0) [
        | no n ↦ bad n
        | yes z ↦ elim (decided z) [
          | inr n ↦ wrong z n
          | inl m ↦ elim (dec_le (length (plan_from b w)) (length room)) [ yes l ↦ good z m l | no l ↦ few z m (omega arith) ]
        ]
      ]

  abbrev num : Numbers → ℕ
  num n = n.number

  -- what 20 says
  at-20 : read.number ≡ 20 → ((book.book_fault 1 b).number ≡ 0) × (Made b w → ⊥)
  at-20 q =
      read-cases _ (λ n. absurd (omega (arith, book-numbers b, ap num (read-book n))))
      (λ z n. (z, n))
      (λ z m l. absurd (omega (arith, ap num (read_short z m l))))
      (λ z m l. absurd (omega (arith, ap num (read-good z m l))))

  -- 20 exactly if no plan that passes 5 to 11 and 18 writes to it
  pub read-20 : (read.number ≡ 20) ↔ (((book.book_fault 1 b).number ≡ 0) × (Made b w → ⊥))
  read-20 = (at-20, λ h. ap num (unmade h.0 h.1))

  pub read-no-place : read.number ≡ 20 → read ≡ numbers 20 0 0
  read-no-place q = let h = at-20 q in unmade h.0 h.1

  -- "then 21", with the plan's words
  pub read-21 : (read.number ≡ 21) ↔ (((book.book_fault 1 b).number ≡ 0) × Made b w × (length room < length (plan_from b w)))
  read-21 = (
    λ q.
        read-cases _ (λ n. absurd (omega (arith, book-numbers b, ap num (read-book n))))
        (λ z n. absurd (omega (arith, ap num (unmade z n))))
        (λ z m l. (z, m, l))
        (λ z m l. absurd (omega (arith, ap num (read-good z m l)))),
    λ h. ap num (read_short h.0 h.1 h.2),
  )

  pub read-needed : read.number ≡ 21 → read ≡ numbers 21 (length (plan_from b w)) 0
  read-needed q = let h = read-21.0 q in read_short h.0 h.1 h.2

  pub read-0 : (read.number ≡ 0) ↔ (((book.book_fault 1 b).number ≡ 0) × Made b w × Fits (plan_from b w) room)
  read-0 = (
    λ q.
        read-cases _ (λ n. absurd (n (sym (ap num (read-book n)) ∙ q)))
        (λ z n. absurd (omega (arith, ap num (unmade z n))))
        (λ z m l. absurd (omega (arith, ap num (read_short z m l))))
        (λ z m l. (z, m, l)),
    λ h. ap num (read-good h.0 h.1 h.2),
  )

  -- "Success is 0 with the words written, and later words stay"
  pub read_done : read.number ≡ 0 → (read ≡ numbers 0 (length (plan_from b w)) 0) ×
      (read_room b w room ≡ plan_from b w ++ drop (length (plan_from b w)) room)
  unfolding read_room
  read_done q = let h = read-0.0 q in (read-good h.0 h.1 h.2, after-0 read (plan_from b w) room q)

  -- "The room is untouched then"
  pub read-untouched : (read.number ≡ 0 → ⊥) → read_room b w room ≡ room
  unfolding read_room
  read-untouched h = after-refused read (plan_from b w) room h
