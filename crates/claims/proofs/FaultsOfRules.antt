-- Demand 2, row 12 of the fault table: the answer names a rule and a trigger token exactly if the book is sound, the plan is a plan over its
-- state variables and satisfies every rule before it, and that rule isn't satisfied, first at that trigger token, all as the papers define
-- it. The same of the direct judge and a sheet. Assumes nothing.
use mathlib.Core.Path.{◌≡◌, refl, sym, ap, ◌∙◌}
use mathlib.Core.Bool.{Bool, true, false, cond, true≢false}
use mathlib.Core.Logic.{◌↔◌, inr}
use mathlib.Core.List.{List}
use Prim.Native.Nat.{ℕ}
use native.Mathlib.Omega.{arith}
use lib.Dec.{ltb}
use lib.ListN.{length, get_or}
use Rattle.answers.specs.declared.Numbers.{Numbers}
use Rattle.answers.specs.Numbers.{numbers, or_else}
use Rattle.answers.proofs.Stages.{stages}
use Rattle.words.specs.Least.{first}
use Rattle.words.proofs.Least.{first-least}
use Rattle.book.specs.Rules.{Rule, rules_of, variables_of}
use Rattle.book.specs.Encode.{atoms, constraints}
use Rattle.book.specs.Sound.{Sound}
use Rattle.book.specs.Fault.{book_fault}
use Rattle.words.specs.Lists.{All}
use Rattle.lines.specs.declared.Token.{Token}
use Rattle.lines.specs.Lines.{line_of}
use Rattle.plan.specs.Fault.{plan_fault}
use Rattle.choice.specs.Met.{Choice, atom_holds, constraint_holds}
use Rattle.verdict.specs.Judged.{no_rule, first_unmet, rule_unmet, examined, rules_fault, judged, judged_sheet}
use Rattle.claims.specs.Papers.{Plan, SatisfiedIn, Met, Satisfies}
use Rattle.claims.specs.Sheets.{Holds, SheetSatisfies}
use Rattle.claims.specs.Stages.{stages_of, last_stage}
use Rattle.claims.proofs.Stages.{at_last, owned, judge_disjoint, rules_own, in_order}
use Rattle.claims.specs.Wrongs.{First, Tables}
use Rattle.claims.proofs.WrongTests.{unless, first-is}
use Rattle.claims.proofs.FaultsOfTables.{with_book}
use Rattle.claims.proofs.Matched.{all-at}
use Rattle.claims.specs.RulesMet.{Fails, Settles}
use Rattle.claims.proofs.RulesMet.{book_settles, sheet_settles}
use Rattle.claims.proofs.Accepted.{plan_none}
use Rattle.claims.specs.FaultsOfRules.{FirstRule}

-- ---- the stage opened

-- 12 is given where the test holds
given : (t : Bool) (x y n a c : ℕ) → cond t (numbers 12 x y) (numbers 0 n 0) ≡ numbers 12 a c → (t ≡ true) × (x ≡ a) × (y ≡ c)
given true x y n a c e = (refl, ap (λ (r : Numbers). r.a) e, ap (λ (r : Numbers). r.b) e)
given false x y n a c e = let z = ap (λ (r : Numbers). r.number) e in absurd (omega arith)

-- rule a is the first that is unmet, first at trigger token c
rules_given : {C : Type 0} (holds : Choice → C → Bool) (lines : ℕ → List Token) (rules : List (Rule C)) (a c : ℕ)
    → (rules_fault holds lines rules ≡ numbers 12 a c)
    ↔ (First (length rules) (λ k. rule_unmet holds lines (get_or rules k no_rule) ≡ true) a × (first_unmet holds lines (get_or rules a no_rule) ≡ c))
unfolding rules_fault
rules_given holds lines rules a c =
    let k : ℕ = first (rule_unmet holds lines) rules in
    let f = rw (← first-least (rule_unmet holds lines) no_rule rules) at
    (first-is (length rules) (λ k. rule_unmet holds lines (get_or rules k no_rule)) (λ k. rule_unmet holds lines (get_or rules k no_rule) ≡ true) (λ k. (λ h. h, λ h. h)) a) in (
      λ h.
          let q = given (ltb k (length rules)) k (first_unmet holds lines (get_or rules k no_rule)) (examined lines rules) a c h in
          (f.0 (q.0, q.1), ap (λ (k : ℕ). first_unmet holds lines (get_or rules k no_rule)) (sym q.1) ∙ q.2),
      λ h. let q = f.1 h.0 in rw (q.0, q.1, h.1),
    )

-- ---- the judge's answer

module _ {C : Type 0} (holds : Choice → C → Bool) (S : Rule C → Type 0) (F : Rule C → ℕ → Type 0) (rules : List (Rule C)) (e : ℕ) (b p : List ℕ)
    (settles : Sound e b → Plan (variables_of b) (line_of p) → All (λ (r : Rule C). Settles holds (line_of p) r (S r) (F r)) rules) where
  -- in plain facts, of rules for which the test is settled
  rules_is : Sound e b → Plan (variables_of b) (line_of p) → (a c : ℕ) → (rules_fault holds (line_of p) rules ≡ numbers 12 a c) ↔ FirstRule rules S F a c
  rules_is s plan a c =
      let g = rules_given holds (line_of p) rules a c in
      let each = (all-at (λ (r : Rule C). Settles holds (line_of p) r (S r) (F r)) no_rule rules).0 (settles s plan) in (
        λ h.
            let q = g.0 h in
            let f = q.0 in
            let few = f.below in
            record {
              below = f.below;
              before = λ k l. (each k (omega arith)).satisfied.0 ((unless (rule_unmet holds (line_of p) (get_or rules k no_rule)) _ (λ h. h, λ h. h)).1 (f.before k l));
              fails = ((each a f.below).fails c).0 (f.here, q.1);
            },
        λ h.
            let few = h.below in
            let w = ((each a h.below).fails c).1 h.fails in
            g.1
            (record { below = h.below; here = w.0; before = λ k l z. true≢false (sym z ∙ (each k (omega arith)).satisfied.1 (h.before k l)) }, w.1),
      )

  -- whatever asks in the rules: the judge's answer
  fault_rule : (a c : ℕ) → (or_else (book_fault e b) (or_else (plan_fault b p) (rules_fault holds (line_of p) rules)) ≡ numbers 12 a c)
      ↔ (Sound e b × Tables b p × Plan (variables_of b) (line_of p) × FirstRule rules S F a c)
  unfolding plan_fault
  fault_rule a c =
      let last : Numbers = rules_fault holds (line_of p) rules in
      let s = at_last (stages_of e b p) (last_stage last) (numbers 12 a c) (owned e b p last (rules_own _ _ _)) (judge_disjoint e b p last)
      (inr (omega arith, omega arith, omega arith)) in
      rw (in_order e b p last) (
        λ h.
            let q = s.0 h in
            let w = (with_book e b).0 q.0 in
            let n = w.1 in
            let r = (plan_none w.0 p).0 ((stages _ _).1 (n.0, (stages _ _).1 (n.1.0, (stages _ _).1 (n.1.1.0, (stages _ _).1 (n.1.1.1.0, n.1.1.1.1.0))))) in
            (w.0, r.0, r.1, (rules_is w.0 r.1 a c).0 q.1),
        λ h.
            let n = (stages _ _).0 ((plan_none h.0 p).1 (h.1, h.2)) in
            let m = (stages _ _).0 n.1 in
            let l = (stages _ _).0 m.1 in
            let k = (stages _ _).0 l.1 in
            s.1 ((with_book e b).1 (h.0, (n.0, (m.0, (l.0, (k.0, (k.1, tt)))))), (rules_is h.0 h.2 a c).1 h.3),
      )

-- ---- THE THEOREMS

-- 12 "rule not met"
pub fault_12 : (b p : List ℕ) (a c : ℕ)
    → (judged b p ≡ numbers 12 a c)
    ↔ (Sound 1 b × Tables b p × Plan (variables_of b) (line_of p)
    × FirstRule (rules_of atoms b) (Satisfies (SatisfiedIn (line_of p)) (line_of p)) (λ r. Fails (line_of p) r (Met (SatisfiedIn (line_of p)) (line_of p) r)) a c)
unfolding judged
fault_12 b p = fault_rule atom_holds _ _ (rules_of atoms b) 1 b p (book_settles (line_of p))

-- of the direct judge, "with constraints in place of atoms"
pub sheet_fault_12 : (s p : List ℕ) (a c : ℕ)
    → (judged_sheet s p ≡ numbers 12 a c)
    ↔ (Sound 2 s × Tables s p × Plan (variables_of s) (line_of p)
    × FirstRule (rules_of constraints s) (SheetSatisfies (line_of p)) (λ r. Fails (line_of p) r (Met Holds (line_of p) r)) a c)
unfolding judged_sheet
sheet_fault_12 s p = fault_rule constraint_holds _ _ (rules_of constraints s) 2 s p (sheet_settles (line_of p))
