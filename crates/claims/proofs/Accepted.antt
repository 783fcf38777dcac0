-- Demand 2, row 0 of the fault table: a plan is accepted exactly if the book is sound, the plan's tables are, every token keeps its value,
-- length and successor and ends by the last tick, and the plan satisfies every rule, as the papers define it; and the count is that of the
-- trigger tokens. The same of the direct judge and a sheet. Specimens has P2, the empty plan and a rule without trigger, which are accepted,
-- and P1, which isn't. Assumes nothing.
use mathlib.Core.Path.{◌≡◌, refl, sym, ap, ◌∙◌, subst}
use mathlib.Core.Bool.{Bool, true, false, ◌||◌, cond}
use mathlib.Core.Logic.{◌↔◌}
use mathlib.Core.List.{List, [], ◌∷◌}
use native.Mathlib.Nat.{zero-add}
use Prim.Native.Nat.{ℕ, ◌+◌}
use native.Mathlib.Omega.{arith}
use lib.Dec.{ltb, eqb}
use lib.ListN.{length}
use borrow.Author.Tests.{ltb-false, le-ltb, eqb-true, eqb-false, eq-eqb, ne_eqb}
use Rattle.answers.specs.declared.Numbers.{Numbers}
use Rattle.answers.specs.Numbers.{numbers, or_else}
use Rattle.answers.proofs.Stages.{else_next, stages}
use Rattle.words.specs.Lists.{All}
use Rattle.words.specs.Least.{first}
use Rattle.clock.specs.Clock.{no_limit}
use Rattle.book.specs.Rules.{Rule, rules_of, variables_of}
use Rattle.book.specs.Encode.{atoms, constraints}
use Rattle.book.specs.Sound.{Sound}
use Rattle.book.specs.Fault.{book_fault}
use Rattle.lines.specs.declared.Token.{Token}
use Rattle.lines.specs.Lines.{line_of}
use Rattle.plan.specs.Fault.{plan_fault}
use Rattle.plan.proofs.Good.{plan_good, plan_good_back, no_number}
use Rattle.choice.specs.Met.{Choice, nobody, atom_holds, constraint_holds}
use Rattle.verdict.specs.Judged.{untriggered, counted, trigger_line, is_trigger, examined, rule_unmet, rules_fault, judged, judged_sheet}
use Rattle.claims.specs.Papers.{Plan}
use Rattle.claims.proofs.Laws.{all-to, all_apply, none_first}
use Rattle.claims.specs.Wrongs.{Tables}
use Rattle.claims.proofs.FaultsOfTables.{book_none}
use Rattle.claims.proofs.Timelines.{plan_iff}
use Rattle.claims.specs.RulesMet.{Settles}
use Rattle.claims.proofs.RulesMet.{book_settles, sheet_settles}
use Rattle.claims.specs.Accepted.{Solution, Accepted, SheetAccepted, Having, Examined, none, one, other, triggered, triggerless}

-- ---- the count

-- the judge counts the tokens that have the value
having_is : (v : ℕ) (line : List Token) → Having v line (counted (λ t. eqb t.value v) line)
unfolding counted
having_is v [] = none
having_is v (t ∷ line) = by (eqb t.value v) refl (having_is v line)
  where
    by : (x : Bool) → eqb t.value v ≡ x → Having v line (counted (λ t. eqb t.value v) line)
        → Having v (t ∷ line) (cond x 1 0 + counted (λ t. eqb t.value v) line)
    by true e h = one (eqb-true _ _ e) h
    by false e h = rw zero-add (other (eqb-false _ _ e) h)

-- and there is one such number
having_one : {v : ℕ} {line : List Token} {n : ℕ} → Having v line n → counted (λ t. eqb t.value v) line ≡ n
unfolding counted
having_one none = refl
having_one (one e h) = rw (eq-eqb _ _ e, having_one h) (omega arith)
having_one (other e h) = rw (ne_eqb _ _ e, having_one h) (omega arith)

module _ {C : Type 0} (lines : ℕ → List Token) where
  -- one rule
  rule_count : (r : Rule C) → counted (is_trigger lines r) (trigger_line lines r) ≡ cond (untriggered r) 1 (counted (λ (t : Token). eqb t.value r.value) (lines r.variable))
  unfolding trigger_line is_trigger counted
  rule_count r = by (untriggered r)
    where
      by : (x : Bool) → counted (λ (t : Token). x || eqb t.value r.value) (cond x (nobody ∷ []) (lines r.variable))
          ≡ cond x 1 (counted (λ (t : Token). eqb t.value r.value) (lines r.variable))
      by true = refl
      by false = refl

  -- all rules
  pub examined-is : (rules : List (Rule C)) → Examined lines rules (examined lines rules)
  unfolding examined
  examined-is [] = none
  examined-is (r ∷ rules) = rw (rule_count r) (by (untriggered r) refl (examined-is rules))
    where
      by : (x : Bool) → untriggered r ≡ x → Examined lines rules (examined lines rules)
          → Examined lines (r ∷ rules) (cond x 1 (counted (λ (t : Token). eqb t.value r.value) (lines r.variable)) + examined lines rules)
      by true e h = triggerless (eqb-true _ _ e) h
      by false e h = triggered (eqb-false _ _ e) (having_is r.value (lines r.variable)) h

  -- and there is one such number
  pub examined-one : {rules : List (Rule C)} {n : ℕ} → Examined lines rules n → examined lines rules ≡ n
  unfolding examined
  examined-one none = refl
  examined-one (triggered {r} e h k) = rw (rule_count r, ne_eqb r.variable no_limit e, having_one h, examined-one k)
  examined-one (triggerless {r} e k) = rw (rule_count r, eq-eqb r.variable no_limit e, examined-one k)

-- ---- the rules

-- 12 isn't given
passes : (t : Bool) (x y n : ℕ) → (cond t (numbers 12 x y) (numbers 0 n 0)).number ≡ 0 → t ≡ false
passes true x y n h = absurd (omega arith)
passes false x y n h = refl

module _ {C : Type 0} (holds : Choice → C → Bool) (lines : ℕ → List Token) (rules : List (Rule C)) where
  -- no rule is unmet
  rules_none : ((rules_fault holds lines rules).number ≡ 0) ↔ All (λ (r : Rule C). rule_unmet holds lines r ≡ false) rules
  unfolding rules_fault
  rules_none =
      let n = none_first (rule_unmet holds lines) (λ (r : Rule C). rule_unmet holds lines r ≡ false) (λ r. (λ h. h, λ h. h)) rules in (
        λ h. n.0 (ltb-false _ _ (passes (ltb (first (rule_unmet holds lines) rules) (length rules)) _ _ _ h)),
        λ h. rw (le-ltb (first (rule_unmet holds lines) rules) (length rules) (n.1 h)),
      )

  -- and then they give the count
  rules_count : (rules_fault holds lines rules).number ≡ 0 → rules_fault holds lines rules ≡ numbers 0 (examined lines rules) 0
  unfolding rules_fault
  rules_count h = rw (passes (ltb (first (rule_unmet holds lines) rules) (length rules)) _ _ _ h)

-- ---- the stages found nothing

-- the plan's
pub plan_none : {e : ℕ} {b : List ℕ} → Sound e b → (p : List ℕ) → ((plan_fault b p).number ≡ 0) ↔ (Tables b p × Plan (variables_of b) (line_of p))
plan_none {b = b} s p =
    let q = plan_iff s p in (
      λ h.
          let g = plan_good b p (no_number b p h) in
          (record { sized = (g.long, g.short); head = g.head; whole = g.whole }, q.1 (g.tokens, g.together)),
      λ h.
          let t = h.0 in
          ap (λ (r : Numbers). r.number)
          (plan_good_back b p (record { long = t.sized.0; short = t.sized.1; head = t.head; whole = t.whole; tokens = (q.0 h.1).0; together = (q.0 h.1).1 })),
    )

module _ {C : Type 0} (holds : Choice → C → Bool) (S : Rule C → Type 0) (F : Rule C → ℕ → Type 0) (rules : List (Rule C)) (e : ℕ) (b p : List ℕ)
    (settles : Sound e b → Plan (variables_of b) (line_of p) → All (λ (r : Rule C). Settles holds (line_of p) r (S r) (F r)) rules) where
  -- the judge's answer, whatever the rules ask
  abbrev answer : Numbers
  answer = or_else (book_fault e b) (or_else (plan_fault b p) (rules_fault holds (line_of p) rules))

  -- the rules'
  satisfied_none : Sound e b → Plan (variables_of b) (line_of p) → ((rules_fault holds (line_of p) rules).number ≡ 0) ↔ All S rules
  satisfied_none s plan =
      let U : Rule C → Type 0 = λ r. rule_unmet holds (line_of p) r ≡ false in
      let T : Rule C → Type 0 = λ r. Settles holds (line_of p) r (S r) (F r) in
      let n = rules_none holds (line_of p) rules in (
        λ h. all_apply U S rules (all-to T (λ r. U r → S r) (λ r j. j.satisfied.0) rules (settles s plan)) (n.0 h),
        λ h. n.1 (all_apply S U rules (all-to T (λ r. S r → U r) (λ r j. j.satisfied.1) rules (settles s plan)) h),
      )

  -- all of them
  pub solution : (answer.number ≡ 0) ↔ Solution e b p rules S
  solution = (
    λ h.
        let s = (stages (book_fault e b) _).0 h in
        let t = (stages (plan_fault b p) _).0 s.1 in
        let sound = (book_none e b).0 s.0 in
        let q = (plan_none sound p).0 t.0 in
        record { book = sound; tables = q.0; plan = q.1; satisfied = (satisfied_none sound q.1).0 t.1 },
    λ a.
        (stages (book_fault e b) _).1 (
          (book_none e b).1 a.book,
          (stages (plan_fault b p) _).1 ((plan_none a.book p).1 (a.tables, a.plan), (satisfied_none a.book a.plan).1 a.satisfied),
        ),
  )

  -- and then the answer has the count
  answer-count : answer.number ≡ 0 → answer ≡ numbers 0 (examined (line_of p) rules) 0
  answer-count h =
      let s = (stages (book_fault e b) _).0 h in
      let t = (stages (plan_fault b p) _).0 s.1 in
      else_next _ _ s.0 ∙ else_next _ _ t.0 ∙ rules_count holds (line_of p) rules t.1

  -- row 0
  pub solution_count : (n : ℕ) → (answer ≡ numbers 0 n 0) ↔ (Solution e b p rules S × Examined (line_of p) rules n)
  solution_count n = (
    λ h.
        let z = ap (λ (r : Numbers). r.number) h in
        let count = ap (λ (r : Numbers). r.a) (sym (answer-count z) ∙ h) in
        (solution.0 z, subst (Examined (line_of p) rules) count (examined-is (line_of p) rules)),
    λ h. answer-count (solution.1 h.0) ∙ ap (λ (k : ℕ). numbers 0 k 0) (examined-one (line_of p) h.1),
  )

-- ---- THE THEOREMS

-- "accepted exactly if"
pub accepted : (b p : List ℕ) → ((judged b p).number ≡ 0) ↔ Accepted b p
unfolding judged
accepted b p = solution atom_holds _ _ (rules_of atoms b) 1 b p (book_settles (line_of p))

-- 0 "none of these": a is the number of trigger tokens examined, and b is 0
pub accepted_count : (b p : List ℕ) (n : ℕ) → (judged b p ≡ numbers 0 n 0) ↔ (Accepted b p × Examined (line_of p) (rules_of atoms b) n)
unfolding judged
accepted_count b p = solution_count atom_holds _ _ (rules_of atoms b) 1 b p (book_settles (line_of p))

-- the direct judge's
pub sheet_accepted : (s p : List ℕ) → ((judged_sheet s p).number ≡ 0) ↔ SheetAccepted s p
unfolding judged_sheet
sheet_accepted s p = solution constraint_holds _ _ (rules_of constraints s) 2 s p (sheet_settles (line_of p))

-- and its count
pub sheet_accepted_count : (s p : List ℕ) (n : ℕ) → (judged_sheet s p ≡ numbers 0 n 0) ↔ (SheetAccepted s p × Examined (line_of p) (rules_of constraints s) n)
unfolding judged_sheet
sheet_accepted_count s p = solution_count constraint_holds _ _ (rules_of constraints s) 2 s p (sheet_settles (line_of p))
