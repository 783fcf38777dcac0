-- Which sheets the translator takes: "a sheet is turned away exactly when it is unsound, passes a stated limit, or the room lent is too
-- short". Assumes nothing.
use mathlib.Core.Path.{◌≡◌, refl, ap, ◌∙◌}
use mathlib.Core.Bool.{Bool, true, false, cond, ◌||◌, true≢false}
use mathlib.Core.Logic.{◌↔◌, ◌⊎◌, inl, inr, ⊎_elim}
use mathlib.Core.List.{List}
use Prim.Native.Nat.{ℕ, ◌≤◌, ◌<◌}
use native.Mathlib.Decide.{dec_le, ℕ_discrete}
use native.Mathlib.Omega.{arith}
use lib.Dec.{ltb, eqb}
use lib.ListN.{length}
use borrow.Author.Tests.{ltb-false, lt-ltb, le-ltb}
use Rattle.answers.specs.declared.Numbers.{Numbers}
use Rattle.answers.specs.Numbers.{numbers_at, numbers, no_fault, or_else}
use Rattle.answers.proofs.Stages.{else_fault, else_next, stages}
use Rattle.words.specs.Lists.{All}
use Rattle.words.specs.Least.{first}
use Rattle.book.specs.Rules.{Atom, Alternative, Rule}
use Rattle.book.specs.Encode.{alts_of, names_of, asks_of}
use Rattle.layout.specs.Layout.{ending}
use Rattle.book.specs.Fault.{first_header, first_table, record_numbers, length_fault, header_fault, end_fault, record_fault, book_fault}
use Rattle.translator.specs.Translation.{rules_for, translated, too_many, rule_fault, size_fault, room_fault, translation}
use Rattle.claims.proofs.Laws.{none_first}
use Rattle.claims.specs.Taken.{Sizes, Within}

-- ---- a stage has no fault

at_most : (n x : ℕ) → (ltb n x ≡ false) ↔ (x ≤ n)
at_most n x = (ltb-false n x, le-ltb n x)

-- the fault is given where the test holds
given : (t : Bool) (n a b : ℕ) (next : Numbers) → 1 ≤ n → ((cond t (numbers n a b) next).number ≡ 0) ↔ ((t ≡ false) × (next.number ≡ 0))
given true n a b next some = (λ h. absurd (omega arith), λ h. absurd (true≢false h.0))
given false n a b next some = (λ h. (refl, h), λ h. h.1)

-- a stage gives this number or none
abbrev Only : ℕ → Numbers → Type 0
Only n x = (x.number ≡ 0) ⊎ (x.number ≡ n)

only : (t : Bool) (n a b : ℕ) (next : Numbers) → Only n next → Only n (cond t (numbers n a b) next)
only true n a b next h = inr refl
only false n a b next h = h

-- with those after it: this number is the answer's, or the answer is theirs
stage-answer : (n : ℕ) → 1 ≤ n → (x y : Numbers) → Only n x → ((or_else x y).number ≡ n) ⊎ ((x.number ≡ 0) × (or_else x y ≡ y))
stage-answer n some x y h =
    ⊎_elim (λ z. inr (z, else_next x y z)) (λ e. inl (ap (λ (r : Numbers). r.number) (else_fault x y (λ z. omega arith)) ∙ e)) h

-- a part of the answer without the number 16: a case, one of two, and one of two stages
record Not16 (x : Numbers) : Type 0 where
  not : x.number ≡ 16 → ⊥

row_16 : (n a b : ℕ) {c : ℕ} → (n ≡ 16 → ⊥) → Not16 (numbers_at n a b c)
row_16 n a b h = record { not = h }

none_16 : Not16 no_fault
none_16 = row_16 0 0 0 (λ e. omega arith)

only_16 : {x : Numbers} (n : ℕ) → (n ≡ 16 → ⊥) → Only n x → Not16 x
only_16 n h o = record { not = λ e. ⊎_elim (λ z. omega arith) (λ z. h (omega arith)) o }

either : (t : Bool) (x y : Numbers) → Not16 x → Not16 y → Not16 (cond t x y)
either true x y h k = h
either false x y h k = k

neither : (x y : Numbers) → Not16 x → Not16 y → Not16 (or_else x y)
unfolding or_else
neither x y h k = either (eqb x.number 0) y x k h

module _ (s : List ℕ) where
  many_fault : ((rule_fault (rules_for s)).number ≡ 0) ↔ All (λ (r : Rule Atom). length r.alternatives ≤ 64) (rules_for s)
  unfolding rule_fault too_many
  many_fault =
      let g = given (ltb (first too_many (rules_for s)) (length (rules_for s))) 13 (first too_many (rules_for s)) 0 no_fault (omega arith) in
      let f = none_first too_many _ (λ r. at_most 64 (length r.alternatives)) (rules_for s) in
      (λ h. f.0 (ltb-false _ _ (g.0 h).0), λ h. g.1 (le-ltb _ _ (f.1 h), refl))

  size_fault_lem : ((size_fault s).number ≡ 0) ↔ Sizes s
  unfolding size_fault
  size_fault_lem = let some : 1 ≤ 14 = omega arith in simp (given, at_most) (λ h. omega arith, λ h. omega arith)

  room_fault_lem : (room : ℕ) → ((room_fault s room).number ≡ 0) ↔ (length (translated s) ≤ room)
  unfolding room_fault
  room_fault_lem room = let some : 1 ≤ 15 = omega arith in simp (given, at_most) (λ h. h.0, λ h. (h, refl))

  -- THE THEOREM: taken exactly when it is sound (not 1 to 4), within the limits (not 13, 14), and the room is long enough (not 15)
  pub taken : (room : ℕ) → ((translation s room).number ≡ 0) ↔ (((book_fault 2 s).number ≡ 0) × Within s × (length (translated s) ≤ room))
  unfolding translation
  taken room =
      simp (stages, many_fault, size_fault_lem, room_fault_lem) (
        λ h. (h.0, record { rules = h.1.0; sizes = h.1.1.0 }, h.1.1.1.0),
        λ h. (h.0, (h.1.rules, (h.1.sizes, (h.2, refl)))),
      )

  -- so it is "turned away exactly when it is unsound, passes a stated limit, or the room lent is too short"
  pub turned_away : (room : ℕ) → ((translation s room).number ≡ 0 → ⊥)
      ↔ (((book_fault 2 s).number ≡ 0 → ⊥) ⊎ ((Within s → ⊥) ⊎ (room < length (translated s))))
  turned_away room = (
    λ h. elim (ℕ_discrete (book_fault 2 s).number 0) [
      | no n ↦ inl n
      | yes q ↦ elim (dec_le (length (translated s)) room) [ yes l ↦ inr (inl (λ w. h ((taken room).1 (q, w, l)))) | no n ↦ inr (inr (omega arith)) ]
    ],
    λ h z.
        let t = (taken room).0 z in
        let long = t.2 in
        ⊎_elim (λ n. n t.0) (λ k. ⊎_elim (λ n. n t.1) (λ l. omega arith) k) h,
  )

  -- ---- and with which number

  -- unsound: with the number 1 to 4 that the sheet has
  pub unsound_answer : (room : ℕ) → ((book_fault 2 s).number ≡ 0 → ⊥) → translation s room ≡ book_fault 2 s
  unfolding translation
  unsound_answer room h = else_fault _ _ h

  rule_number : Only 13 (rule_fault (rules_for s))
  unfolding rule_fault
  rule_number = only (ltb (first too_many (rules_for s)) (length (rules_for s))) 13 (first too_many (rules_for s)) 0 no_fault (inl refl)

  size_number : Only 14 (size_fault s)
  unfolding size_fault
  size_number =
      let alts : List (Alternative Atom) = alts_of (rules_for s) in
      only (ltb 1024 (length alts)) 14 3 0 _
      (only (ltb 2048 (length (names_of alts))) 14 4 0 _
      (only (ltb 2048 (length (asks_of alts))) 14 5 0 _ (only (ltb 16384 (length (translated s))) 14 6 0 no_fault (inl refl))))

  -- sound and within the limits: as the room is
  sound_answer : (room : ℕ) → (book_fault 2 s).number ≡ 0 → Within s
      → translation s room ≡ or_else (room_fault s room) (numbers 0 (length (translated s)) (length (alts_of (rules_for s))))
  unfolding translation
  sound_answer room q w =
      else_next _ _ q
      ∙ else_next _ _ (many_fault.1 w.rules)
      ∙ else_next _ _ (size_fault_lem.1 w.sizes)

  -- past a limit: with 13 or 14
  pub limit_answer : (room : ℕ) → (book_fault 2 s).number ≡ 0 → (Within s → ⊥)
      → ((translation s room).number ≡ 13) ⊎ ((translation s room).number ≡ 14)
  unfolding translation
  limit_answer room q h =
      rw (else_next (book_fault 2 s) _ q)
      (⊎_elim inl
      (λ many. rw many.1
      (inr (⊎_elim (λ e. e)
      (λ size. absurd (h (record { rules = many_fault.0 many.0; sizes = size_fault_lem.0 size.0 })))
      (stage-answer 14 (omega arith) (size_fault s) _ size_number))))
      (stage-answer 13 (omega arith) (rule_fault (rules_for s)) _ rule_number))

  -- too little room: with 15 and the words needed
  pub room_answer : (room : ℕ) → (book_fault 2 s).number ≡ 0 → Within s → room < length (translated s)
      → translation s room ≡ numbers 15 (length (translated s)) 0
  unfolding translation room_fault or_else
  room_answer room q w l = sound_answer room q w ∙ rw (lt-ltb room (length (translated s)) l)

  -- taken: "0 done (a words written, b alternatives)"
  pub done-answer : (room : ℕ) → (translation s room).number ≡ 0
      → translation s room ≡ numbers 0 (length (translated s)) (length (alts_of (rules_for s)))
  done-answer room h =
      let t = (taken room).0 h in
      sound_answer room t.0 t.1 ∙ else_next _ _ ((room_fault_lem room).1 t.2)

  -- the stages of a sheet's fault, 1 to 4
  sheet_16 : Not16 (book_fault 2 s)
  unfolding book_fault length_fault header_fault end_fault record_fault
  sheet_16 =
      let t : ℕ = first_table 2 s in
      neither (length_fault s) _ (either (ltb (length s) 14 || ltb 16384 (length s)) (numbers 1 0 0) no_fault (row_16 1 0 0 (λ e. omega arith)) none_16)
      (neither (header_fault 2 s) _ (either (ltb (first_header 2 s) 14) (numbers 2 (first_header 2 s) 0) no_fault (row_16 2 _ 0 (λ e. omega arith)) none_16)
      (neither (end_fault 2 s) (record_fault 2 s) (either (eqb (ending 2 s 5) (length s)) no_fault (numbers 3 0 0) none_16 (row_16 3 0 0 (λ e. omega arith)))
      (either (ltb t 6) (record_numbers 2 s t) no_fault (row_16 4 t _ (λ e. omega arith)) none_16)))

  room_16 : (room : ℕ) → Not16 (room_fault s room)
  unfolding room_fault
  room_16 room =
      let n : ℕ = length (translated s) in
      either (ltb room n) (numbers 15 n 0) no_fault (row_16 15 n 0 (λ e. omega arith)) none_16

  all_16 : (room : ℕ) → Not16 (translation s room)
  unfolding translation
  all_16 room =
      neither _ _ sheet_16
      (neither _ _ (only_16 13 (λ e. omega arith) rule_number)
      (neither _ _ (only_16 14 (λ e. omega arith) size_number) (neither _ _ (room_16 room) (row_16 0 _ _ (λ e. omega arith)))))

  -- no sheet gets 16: the number isn't used (`FewAtoms` says why no test is missed)
  pub never_16 : (room : ℕ) → (translation s room).number ≡ 16 → ⊥
  never_16 room = (all_16 room).not
