-- "Refusals: the second judge gives the main judge's own, and 26 after 4 for a book outside the profile". Assumes nothing.
use mathlib.Core.Path.{◌≡◌, refl, sym, ap, ◌∙◌}
use mathlib.Core.Bool.{Bool, true, false, true≢false}
use mathlib.Core.Logic.{◌↔◌}
use mathlib.Core.List.{List}
use Prim.Native.Nat.{ℕ}
use native.Mathlib.Decide.{ℕ_discrete}
use native.Mathlib.Omega.{arith}
use borrow.Author.Tests.{eq-eqb}
use Rattle.answers.specs.declared.Numbers.{Numbers}
use Rattle.answers.specs.Numbers.{Answer, numbers_of, numbers}
use Rattle.answers.proofs.Stages.{else_fault, else_next}
use Rattle.answers.proofs.OneCase.{one_answer}
use Rattle.book.specs.Fault.{book_fault}
use Rattle.verdict.specs.Judged.{judged}
use Rattle.claims.specs.Answers.{Listed, book_length, book_header, book_end, book_record, plan_length, plan_header, plan_end, unknown, outside, breaks, late, apart, unmet, accepted}
use Rattle.claims.proofs.Answers.{judged-listed}
use Rattle.order.specs.Profile.{all_order, order_only, profile_fault}
use Rattle.order.specs.Judged.{judged_by_order}
use Rattle.order_claims.specs.InProfile.{InProfile}
use Rattle.order_claims.proofs.InProfile.{profile_iff, profile_order}
use Rattle.order_claims.proofs.Ranked.{by_order}

-- 26 is none of the main judge's numbers
not_listed : {x : Numbers} → Listed x → x.number ≡ 26 → ⊥
not_listed book_length h = omega arith
not_listed (book_header word) h = omega arith
not_listed book_end h = omega arith
not_listed (book_record table row word) h = omega arith
not_listed plan_length h = omega arith
not_listed (plan_header word) h = omega arith
not_listed plan_end h = omega arith
not_listed (unknown timeline token) h = omega arith
not_listed (outside timeline token) h = omega arith
not_listed (breaks timeline token) h = omega arith
not_listed (late timeline token) h = omega arith
not_listed (apart timeline) h = omega arith
not_listed (unmet rule token) h = omega arith
not_listed (accepted triggers) h = omega arith

module _ (b p : List ℕ) where
  -- a book with one of the faults 1 to 4 gets it from both
  pub book-own : ((book_fault 1 b).number ≡ 0 → ⊥) → judged_by_order b p ≡ judged b p
  unfolding judged_by_order judged
  book-own h = else_fault (book_fault 1 b) _ h ∙ sym (else_fault (book_fault 1 b) _ h)

  -- 26 before the plan is looked at
  pub outside-26 : (book_fault 1 b).number ≡ 0 → all_order b ≡ false → judged_by_order b p ≡ numbers 26 0 0
  unfolding judged_by_order profile_fault
  outside-26 h o = else_next (book_fault 1 b) _ h ∙ rw o (else_fault (numbers 26 0 0) _ (λ z. omega arith))

  -- one of the three cases is there
  cases : (P : Type 0) → (((book_fault 1 b).number ≡ 0 → ⊥) → P) → ((book_fault 1 b).number ≡ 0 → all_order b ≡ false → P) → (order_only b ≡ true → P) → P
  unfolding order_only
  cases P bad out good = elim (ℕ_discrete (book_fault 1 b).number 0) [ no n ↦ bad n | yes z ↦ by (all_order b) refl z ]
    where
      by : (t : Bool) → all_order b ≡ t → (book_fault 1 b).number ≡ 0 → P
      by true e z = good (rw (eq-eqb _ _ z, e))
      by false e z = out z e

  -- THE CLAIM: "26 after 4 for a book outside the profile", exactly then
  pub answer-26 : ((judged_by_order b p).number ≡ 26) ↔ (((book_fault 1 b).number ≡ 0) × (InProfile b → ⊥))
  answer-26 = (
    λ q. cases _
        (λ n. absurd (not_listed (judged-listed b p) (sym (ap (λ (x : Numbers). x.number) (book-own n)) ∙ q)))
        (λ z o. (z, λ i. true≢false (sym (profile_order b ((profile_iff b).1 i)) ∙ o)))
        (λ o. absurd (not_listed (judged-listed b p) (sym (ap (λ (x : Numbers). x.number) (by_order b p o)) ∙ q))),
    λ h. cases _
        (λ n. absurd (n h.0))
        (λ z o. ap (λ (x : Numbers). x.number) (outside-26 z o))
        (λ o. absurd (h.1 ((profile_iff b).0 o))),
  )

  -- THE CLAIM: otherwise it "gives the main judge's own", refusals and all
  pub main-own : ((judged_by_order b p).number ≡ 26 → ⊥) → judged_by_order b p ≡ judged b p
  main-own h = cases _ book-own (λ z o. absurd (h (ap (λ (x : Numbers). x.number) (outside-26 z o)))) (by_order b p)

  -- two permitted answers are equal
  pub judge-by-order-one : (r s : Answer) → numbers_of r ≡ judged_by_order b p → numbers_of s ≡ judged_by_order b p → r ≡ s
  judge-by-order-one = one_answer (judged_by_order b p)
