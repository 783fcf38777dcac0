-- "that two permitted answers are equal is proved": any two results that meet a public function's ensures on the same inputs are the same,
-- the lent words too. An equation settles its result at once; here are the contracts that say an enum by its numbers, and those that say
-- more than one thing. Assumes nothing.
use mathlib.Core.Path.{◌≡◌, sym, ap, ◌∙◌}
use mathlib.Core.Bool.{Bool}
use mathlib.Core.List.{List}
use Prim.Native.Nat.{ℕ}
use Rattle.answers.specs.Numbers.{Answer, numbers_of}
use Rattle.book.specs.Fault.{book_fault}
use Rattle.lines.specs.declared.Position.{Position}
use Rattle.lines.specs.declared.Step.{Step}
use Rattle.lines.specs.declared.Step.TheVariants.{Handed, NoMore}
use Rattle.plan.specs.Fault.{plan_fault}
use Rattle.lines.specs.Walk.{position, step_of}
use Rattle.verdict.specs.Judged.{judged, judged_sheet}
use Rattle.reader.specs.declared.Opened.{Opened}
use Rattle.answers.proofs.OneCase.{one_answer}
use Rattle.claims.specs.OneAnswer.{TranslatePermits, OpenPermits, Left, Leaves, StepPermits}

-- an equation permits one result
pub settled : {A : Type 0} (x r s : A) → r ≡ x → s ≡ x → r ≡ s
settled x r s h k = h ∙ sym k

-- ---- answers: `book::check`, `plan::check`, `verdict::judge`, `verdict::judge_sheet`

pub check_book_one : (e : ℕ) (b : List ℕ) (r s : Answer) → numbers_of r ≡ book_fault e b → numbers_of s ≡ book_fault e b → r ≡ s
check_book_one e b = one_answer (book_fault e b)

pub check_plan_one : (b p : List ℕ) (r s : Answer) → numbers_of r ≡ plan_fault b p → numbers_of s ≡ plan_fault b p → r ≡ s
check_plan_one b p = one_answer (plan_fault b p)

pub judge_one : (b p : List ℕ) (r s : Answer) → numbers_of r ≡ judged b p → numbers_of s ≡ judged b p → r ≡ s
judge_one b p = one_answer (judged b p)

pub judge_sheet_one : (b p : List ℕ) (r s : Answer) → numbers_of r ≡ judged_sheet b p → numbers_of s ≡ judged_sheet b p → r ≡ s
judge_sheet_one b p = one_answer (judged_sheet b p)

pub translate-one : (sheet room : List ℕ) (r s : Answer) (after after' : List ℕ)
    → TranslatePermits sheet room r after → TranslatePermits sheet room s after' → (r ≡ s) × (after ≡ after')
translate-one sheet room r s after after' h k = (one_answer _ r s h.0 k.0, settled _ after after' h.1 k.1)

pub open_one : (b p : List ℕ) (line : ℕ) (r s : Opened) → OpenPermits b p line r → OpenPermits b p line s → r ≡ s
open_one b p line r s h k =
    ap (λ (a : Answer). record { answer = a; at = r.at }) (one_answer _ r.answer s.answer h.0 k.0)
    ∙ ap (λ (q : Position). record { answer = s.answer; at = q }) (settled _ r.at s.at h.1 k.1)

pub step-one : (p : List ℕ) (at : Position) (r s : Step) → r ≡ step_of p at → s ≡ step_of p at → r ≡ s
step-one p at = settled (step_of p at)

-- five equations each settle the five numbers
abbrev Same : Left → Left → Type 0
Same l x = (l.token ≡ x.token) × (l.start ≡ x.start) × (l.value ≡ x.value) × (l.end ≡ x.end) × (l.job ≡ x.job)

five : (l m x : Left) → Same l x → Same m x → l ≡ m
five l m x h k =
    let t = settled _ l.token m.token h.0 k.0 in
    let s = settled _ l.start m.start h.1 k.1 in
    let v = settled _ l.value m.value h.2 k.2 in
    let e = settled _ l.end m.end h.3 k.3 in
    let j = settled _ l.job m.job h.4 k.4 in
    ap (λ (n : ℕ). record { token = n; start = l.start; value = l.value; end = l.end; job = l.job }) t
    ∙ ap (λ (n : ℕ). record { token = m.token; start = n; value = l.value; end = l.end; job = l.job }) s
    ∙ ap (λ (n : ℕ). record { token = m.token; start = m.start; value = n; end = l.end; job = l.job }) v
    ∙ ap (λ (n : ℕ). record { token = m.token; start = m.start; value = m.value; end = n; job = l.job }) e
    ∙ ap (λ (n : ℕ). record { token = m.token; start = m.start; value = m.value; end = m.end; job = n }) j

pub step_c_one : (p : List ℕ) (line : ℕ) (q : Left) (r s : Bool) (left left' : Left)
    → StepPermits p line q r left → StepPermits p line q s left' → (r ≡ s) × (left ≡ left')
step_c_one p line q r s left left' h k = (settled _ r s h.0 k.0, by (step_of p (position line q.token q.start)) h.1 k.1)
  where
    by : (step : Step) → Leaves step q left → Leaves step q left' → left ≡ left'
    by (Handed t next) a b =
        five left left' (record { token = next.token; start = next.start.tick; value = t.value; end = t.end.tick; job = t.job }) a b
    by (NoMore at) a b = five left left' q a b
