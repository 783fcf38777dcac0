-- Demand 1: every input has an answer, and it is one of those listed in the fault table, with a, b and c where the table names them. Faults,
-- FaultsOfRules and Accepted say of each in which case, so that its place is in range; Examples has an input for each; OneAnswer shows that
-- there is one only. For the judge and for the direct judge alike. Assumes nothing.
use mathlib.Core.Path.{◌≡◌, refl, sym, subst}
use mathlib.Core.Bool.{Bool, true, false, ◌||◌, cond}
use mathlib.Core.Logic.{⊎_elim}
use mathlib.Core.List.{List}
use Prim.Native.Nat.{ℕ, ◌+◌, ◌*◌, ◌≤◌, ◌<◌}
use native.Mathlib.Decide.{ℕ_discrete}
use native.Mathlib.Omega.{arith}
use lib.Dec.{ltb, eqb}
use lib.ListN.{length, get_or}
use Rattle.answers.specs.declared.Numbers.{Numbers}
use Rattle.answers.specs.declared.Refusal.TheVariants.{BookLength, BookHeader, BookEnd, BookRecord, PlanLength, PlanHeader, PlanEnd, ValueUnknown, DurationOutside, NotSuccessor, PastLastTick, RuleNotMet, EndsApart}
use Rattle.std.specs.Prelude.{Ok, Err}
use Rattle.answers.specs.Numbers.{Answer, numbers, numbers_of, no_fault, or_else}
use Rattle.answers.proofs.Stages.{else_fault, else_next}
use Rattle.words.specs.Least.{first}
use Rattle.layout.specs.Layout.{count, ending}
use Rattle.book.specs.Fault.{lowest, told_word}
use Rattle.book.specs.Rules.{Rule, rules_of}
use Rattle.book.specs.Encode.{atoms, constraints}
use Rattle.book.specs.Fault as book
use Rattle.lines.specs.Lines.{token_width, line_of}
use Rattle.lines.specs.Ends.{first_apart, ends_fault}
use Rattle.plan.specs.Fault as plan
use Rattle.choice.specs.Met.{Choice, atom_holds, constraint_holds}
use Rattle.verdict.specs.Judged.{no_rule, first_unmet, rule_unmet, examined, rules_fault, judged, judged_sheet}
use Rattle.claims.specs.Stages.{first_of}
use Rattle.claims.proofs.Stages.{in_order, line-own}
use Rattle.claims.specs.Answers.{Listed, book_length, book_header, book_end, book_record, plan_length, plan_header, plan_end, unknown, outside, breaks, late, apart, unmet, accepted}

-- ---- a stage at a time

-- a fault that is listed, or else what comes after it
next : (x y : Numbers) → ((x.number ≡ 0 → ⊥) → Listed x) → Listed y → Listed (or_else x y)
next x y h k =
    elim (ℕ_discrete x.number 0) [ yes q ↦ subst Listed (sym (else_next x y q)) k | no n ↦ subst Listed (sym (else_fault x y n)) (h n) ]

-- a stage gives its fault where its test holds
given : (t : Bool) (x : Numbers) → Listed x → ((cond t x no_fault).number ≡ 0 → ⊥) → Listed (cond t x no_fault)
given true x h n = h
given false x h n = absurd (n refl)

-- or where it fails
ended : (t : Bool) (x : Numbers) → Listed x → ((cond t no_fault x).number ≡ 0 → ⊥) → Listed (cond t no_fault x)
ended true x h n = absurd (n refl)
ended false x h n = h

-- a token's number is one of four
four : (P : ℕ → Type 0) → P 8 → P 9 → P 10 → P 11 → (n : ℕ) → 8 ≤ n → n < 12 → P n
four P a c d e n l h =
    elim (ℕ_discrete n 8) [
      | yes q ↦ subst P (sym q) a
      | no x ↦ elim (ℕ_discrete n 9) [
        | yes q ↦ subst P (sym q) c
        | no y ↦ elim (ℕ_discrete n 10) [ yes q ↦ subst P (sym q) d | no z ↦ let r : 11 ≡ n = omega arith in subst P r e ]
      ]
    ]

-- 12 or 0
settled : (t : Bool) (a c n : ℕ) → Listed (cond t (numbers 12 a c) (numbers 0 n 0))
settled true a c n = unmet a c
settled false a c n = accepted n

module _ (e : ℕ) (b p : List ℕ) where
  -- the fault of the first faulty token of a line is listed
  line-listed : (v : ℕ) → ((plan.line_fault b p v).number ≡ 0 → ⊥) → Listed (plan.line_fault b p v)
  line-listed v n =
      let j : ℕ = plan.first_token b p v in
      ⊎_elim (λ q. absurd (n q))
      (λ q. four (λ m. Listed (numbers m v j)) (unknown v j) (outside v j) (breaks v j) (late v j) _ q.0 q.1)
      (line-own b p v)

  tokens-listed : ((plan.tokens_fault b p).number ≡ 0 → ⊥) → Listed (plan.tokens_fault b p)
  unfolding plan.tokens_fault
  tokens-listed n = by (ltb (plan.first_line b p) (count b 0)) n
    where
      by : (t : Bool) → ((cond t (plan.line_fault b p (plan.first_line b p)) no_fault).number ≡ 0 → ⊥)
          → Listed (cond t (plan.line_fault b p (plan.first_line b p)) no_fault)
      by true n = line-listed (plan.first_line b p) n
      by false n = absurd (n refl)

  -- all stages in their order
  module _ {C : Type 0} (holds : Choice → C → Bool) (rules : List (Rule C)) where
    pub all_listed : Listed (or_else (book.book_fault e b) (or_else (plan.plan_fault b p) (rules_fault holds (line_of p) rules)))
    unfolding first_of book.length_fault book.header_fault book.end_fault book.record_fault plan.length_fault plan.head_fault plan.end_fault ends_fault rules_fault
    all_listed =
        let k : ℕ = book.first_header e b in
        let t : ℕ = book.first_table e b in
        let h : ℕ = plan.first_head b p in
        let v : ℕ = first_apart b p in
        let a : ℕ = first (rule_unmet holds (line_of p)) rules in
        rw (in_order e b p (rules_fault holds (line_of p) rules)) (
        next _ _ (given (ltb (length b) 14 || ltb 16384 (length b)) _ book_length)
        (next _ _ (given (ltb k 14) _ (book_header k))
        (next _ _ (ended (eqb (ending e b 5) (length b)) _ book_end)
        (next _ _ (given (ltb t 6) _ (book_record t (lowest e b t) (told_word e b t (lowest e b t))))
        (next _ _ (given (ltb (length p) (3 + 2 * count b 0) || ltb 16384 (length p)) _ plan_length)
        (next _ _ (given (ltb h (3 + 2 * count b 0)) _ (plan_header h))
        (next _ _ (ended (eqb (3 + 2 * count b 0 + token_width p * plan.sum_before p (count b 0)) (length p)) _ plan_end)
        (next _ _ tokens-listed
        (next _ _ (given (ltb v (count b 0)) _ (apart v))
        (settled (ltb a (length rules)) a (first_unmet holds (line_of p) (get_or rules a no_rule)) (examined (line_of p) rules)))))))))))

-- THE THEOREMS: the judge's answer is listed,
pub judged-listed : (b p : List ℕ) → Listed (judged b p)
unfolding judged
judged-listed b p = all_listed 1 b p atom_holds (rules_of atoms b)

-- and so is the direct judge's
pub sheet-listed : (s p : List ℕ) → Listed (judged_sheet s p)
unfolding judged_sheet
sheet-listed s p = all_listed 2 s p constraint_holds (rules_of constraints s)

-- each listed answer is a case of the enum that the functions return
pub has-answer : {x : Numbers} → Listed x → (r : Answer) × (numbers_of r ≡ x)
has-answer book_length = (Err BookLength, refl)
has-answer (book_header word) = (Err (BookHeader word), refl)
has-answer book_end = (Err BookEnd, refl)
has-answer (book_record table row word) = (Err (BookRecord table row word), refl)
has-answer plan_length = (Err PlanLength, refl)
has-answer (plan_header word) = (Err (PlanHeader word), refl)
has-answer plan_end = (Err PlanEnd, refl)
has-answer (unknown timeline token) = (Err (ValueUnknown timeline token), refl)
has-answer (outside timeline token) = (Err (DurationOutside timeline token), refl)
has-answer (breaks timeline token) = (Err (NotSuccessor timeline token), refl)
has-answer (late timeline token) = (Err (PastLastTick timeline token), refl)
has-answer (apart timeline) = (Err (EndsApart timeline), refl)
has-answer (unmet rule token) = (Err (RuleNotMet rule token), refl)
has-answer (accepted triggers) = (Ok (record { a = triggers; b = 0 }), refl)

-- so a contract that permits r where `numbers_of r` is the judge's answer permits one at least, and by OneAnswer no two
pub judged-answer : (b p : List ℕ) → (r : Answer) × (numbers_of r ≡ judged b p)
judged-answer b p = has-answer (judged-listed b p)

pub sheet-answer : (s p : List ℕ) → (r : Answer) × (numbers_of r ≡ judged_sheet s p)
sheet-answer s p = has-answer (sheet-listed s p)
