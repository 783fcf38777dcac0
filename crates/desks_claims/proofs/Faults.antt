-- A desk's refusals, each exactly if its case is there: 1 to 4 are the undivided judge's, whatever the list; 19 is "after 4 and before 5"; 5 to 11
-- and 18 are "as before"; and 12 names the desk's first rule that the plan doesn't satisfy, by its number in the whole book. Specimens has an
-- input for each. Assumes nothing.
use mathlib.Core.Path.{◌≡◌, refl, sym, ap, ◌∙◌}
use mathlib.Core.Bool.{Bool, true, false, ◌&&◌, cond}
use mathlib.Core.Logic.{◌↔◌, inl, inr, ⊎_elim}
use mathlib.Core.List.{List, ◌∷◌}
use Prim.Native.Nat.{ℕ}
use native.Mathlib.Decide.{ℕ_discrete}
use native.Mathlib.Omega.{arith}
use lib.Dec.{leb}
use Rattle.words.specs.Lists.{all}
use Rattle.answers.specs.declared.Numbers.{Numbers}
use Rattle.answers.specs.Numbers.{Answer, numbers, numbers_of, no_fault, or_else}
use Rattle.answers.proofs.Stages.{else_fault, else_next, stages}
use Rattle.answers.proofs.OneCase.{one_answer}
use Rattle.book.specs.Rules.{rules_of, variables_of}
use Rattle.book.specs.Encode.{atoms}
use Rattle.book.specs.Sound.{Sound}
use Rattle.book.specs.Fault.{book_fault}
use Rattle.lines.specs.Lines.{line_of}
use Rattle.plan.specs.Fault.{plan_fault}
use Rattle.choice.specs.Met.{atom_holds}
use Rattle.verdict.specs.Judged.{rules_fault, judged}
use Rattle.claims.specs.Papers.{Plan, SatisfiedIn, Met, Satisfies}
use Rattle.claims.specs.Wrongs.{Tables}
use Rattle.claims.proofs.FaultsOfTables.{book_none, with_book}
use Rattle.claims.specs.RulesMet.{Fails}
use Rattle.claims.proofs.Accepted.{plan_none}
use Rattle.claims.specs.Stages.{Stage, stage, Own, Owned, first_of, disjoint, book_stages, plan_stages, last_stage}
use Rattle.claims.proofs.Stages.{book_owned, plan_owned, at_stage, at_last, else_else, rules_own}
use Rattle.desks.specs.List.{list_right}
use Rattle.desks.specs.Own.{own_rules, numbered_fault, own_fault, desk_fault, judged_desk}
use Rattle.desks_claims.proofs.Numbering.{from-own}
use Rattle.desks_claims.proofs.FirstUnmet.{own_twelve}
use Rattle.desks_claims.specs.Accepted.{DeskFits}
use Rattle.desks_claims.proofs.Accepted.{desk_none, settled}
use Rattle.desks_claims.specs.Faults.{FirstOwn}

-- ---- the stages

-- 19 or none
desk_own : (b desks : List ℕ) (desk : ℕ) → Own 19 20 (desk_fault b desks desk)
unfolding desk_fault
desk_own b desks desk = by (list_right b desks && leb desk 1)
  where
    by : (t : Bool) → Own 19 20 (cond t no_fault (numbers 19 0 0))
    by true = inl refl
    by false = inr (omega arith, omega arith)

-- it is 19 where it isn't none
desk_given : (b desks : List ℕ) (desk : ℕ) → ((desk_fault b desks desk).number ≡ 0 → ⊥) → desk_fault b desks desk ≡ numbers 19 0 0
unfolding desk_fault
desk_given b desks desk n = by (list_right b desks && leb desk 1) n
  where
    by : (t : Bool) → ((cond t no_fault (numbers 19 0 0)).number ≡ 0 → ⊥) → cond t no_fault (numbers 19 0 0) ≡ numbers 19 0 0
    by true n = absurd (n refl)
    by false n = refl

-- two last answers that give 12 or no number leave the refusals before them as they are
same_refusal : (x y w z : Numbers) → Own 12 13 y → Own 12 13 w → (z.number ≡ 0 → ⊥) → (z.number ≡ 12 → ⊥) → (or_else x y ≡ z) → or_else x w ≡ z
same_refusal x y w z hy hw some other e =
    elim (ℕ_discrete x.number 0) [
      | no n ↦ else_fault x w n ∙ sym (else_fault x y n) ∙ e
      | yes q ↦
          let same = ap (λ (r : Numbers). r.number) (sym (else_next x y q) ∙ e) in
          absurd (⊎_elim (λ h. some (sym same ∙ h)) (λ h. other (omega arith)) hy)
    ]

module _ (b p desks : List ℕ) (desk : ℕ) where
  -- "19, after 4 and before 5"
  abbrev desk_stages : List Stage
  desk_stages = book_stages 1 b (stage 19 20 (desk_fault b desks desk) ∷ plan_stages b p)

  -- and the desk's rules last
  abbrev own_stage : Stage
  own_stage = last_stage (own_fault b p desks desk)

  rules_twelve : Own 12 13 (own_fault b p desks desk)
  unfolding own_fault numbered_fault
  rules_twelve = from-own atom_holds (line_of p) 0 (own_rules desks desk (rules_of atoms b))

  -- each gives its own numbers, no two have one in common, and the answer is that of the stages
  desk_owned : Owned (own_stage ∷ desk_stages)
  desk_owned =
      let h = plan_owned b p (own_fault b p desks desk) rules_twelve in
      book_owned 1 b (stage 19 20 (desk_fault b desks desk) ∷ plan_stages b p) own_stage (h.0, (desk_own b desks desk, h.1))

  desk_disjoint : disjoint (own_stage ∷ desk_stages) ≡ true
  unfolding disjoint all
  desk_disjoint = refl

  desk_order : judged_desk b p desks desk ≡ first_of desk_stages (own_fault b p desks desk)
  unfolding judged_desk first_of book_fault plan_fault
  desk_order = simp else_else

  -- ---- THE THEOREMS

  -- 1 to 4 are "as before", whatever the list and the desk
  pub unsound : (Sound 1 b → ⊥) → judged_desk b p desks desk ≡ judged b p
  unfolding judged_desk judged
  unsound n = else_fault (book_fault 1 b) _ (λ e. n ((book_none 1 b).0 e)) ∙ sym (else_fault (book_fault 1 b) _ (λ e. n ((book_none 1 b).0 e)))

  -- 19 "for a list of the wrong length, a word over 1 or a desk over 1"
  pub desk_fault_19 : (judged_desk b p desks desk ≡ numbers 19 0 0) ↔ (Sound 1 b × (DeskFits b desks desk → ⊥))
  desk_fault_19 =
      let s = at_stage 4 desk_stages own_stage (numbers 19 0 0) (omega arith) desk_owned desk_disjoint (omega arith) (omega arith) (omega arith) in
      rw desk_order (
        λ h.
            let q = s.0 h in
            let w = (with_book 1 b).0 q.0 in
            (w.0, λ f. let z = ap (λ (r : Numbers). r.number) q.1 in omega (arith, (desk_none b desks desk).1 f)),
        λ h. s.1 ((with_book 1 b).1 (h.0, tt), desk_given b desks desk (λ e. h.1 ((desk_none b desks desk).0 e))),
      )

  -- "answers up to 18 as before": where the list and the desk are right, each refusal but 12 is the undivided judge's
  pub up_to_18 : DeskFits b desks desk → (z : Numbers) → (z.number ≡ 0 → ⊥)
      → (z.number ≡ 12 → ⊥) → (judged_desk b p desks desk ≡ z) ↔ (judged b p ≡ z)
  unfolding judged_desk judged
  up_to_18 f z some other =
      let own : Numbers = own_fault b p desks desk in
      let rules : Numbers = rules_fault atom_holds (line_of p) (rules_of atoms b) in
      let right = else_next (desk_fault b desks desk) (or_else (plan_fault b p) own) ((desk_none b desks desk).1 f) in
      let all = rules_own atom_holds (line_of p) (rules_of atoms b) in
      let order : (last : Numbers) → or_else (book_fault 1 b) (or_else (plan_fault b p) last) ≡ or_else (or_else (book_fault 1 b) (plan_fault b p)) last =
      λ last. sym (else_else (book_fault 1 b) (plan_fault b p) last) in
      rw (right, order own, order rules) (
        same_refusal (or_else (book_fault 1 b) (plan_fault b p)) own rules z rules_twelve all some other,
        same_refusal (or_else (book_fault 1 b) (plan_fault b p)) rules own z all rules_twelve some other,
      )

  -- the desk's first rule that isn't met, as the papers say it
  own_is : Sound 1 b → Plan (variables_of b) (line_of p) → (a c : ℕ) → (own_fault b p desks desk ≡ numbers 12 a c)
      ↔ FirstOwn desks desk (rules_of atoms b) (Satisfies (SatisfiedIn (line_of p)) (line_of p)) (λ r. Fails (line_of p) r (Met (SatisfiedIn (line_of p)) (line_of p) r)) a c
  unfolding own_fault
  own_is s plan a c =
      let g = own_twelve atom_holds (line_of p) desks desk (rules_of atoms b) a c in
      let t = settled b p desks desk s plan in (
        λ h.
            let f = g.0 h in
            let l = f.below in
            record {
              below = l;
              own = f.own;
              before = λ k m o. (t k (omega arith)).satisfied.0 (f.before k m o);
              fails = ((t a l).fails c).0 (f.unmet, f.token);
            },
        λ h.
            let l = h.below in
            let w = ((t a l).fails c).1 h.fails in
            g.1
            (record { below = l; own = h.own; before = λ k m o. (t k (omega arith)).satisfied.1 (h.before k m o); unmet = w.0; token = w.1 }),
      )

  -- 12, for the desk's own rules
  pub desk_fault_12 : (a c : ℕ)
      → (judged_desk b p desks desk ≡ numbers 12 a c)
      ↔ (Sound 1 b × DeskFits b desks desk × Tables b p × Plan (variables_of b) (line_of p)
      × FirstOwn desks desk (rules_of atoms b) (Satisfies (SatisfiedIn (line_of p)) (line_of p)) (λ r. Fails (line_of p) r (Met (SatisfiedIn (line_of p)) (line_of p) r)) a c)
  unfolding plan_fault
  desk_fault_12 a c =
      let s = at_last desk_stages own_stage (numbers 12 a c) desk_owned desk_disjoint (inr (omega arith, omega arith, omega arith)) in
      rw desk_order (
        λ h.
            let q = s.0 h in
            let w = (with_book 1 b).0 q.0 in
            let n = w.1.1 in
            let last = (stages _ _).1 (n.1.1.1.0, n.1.1.1.1.0) in
            let r = (plan_none w.0 p).0 ((stages _ _).1 (n.0, (stages _ _).1 (n.1.0, (stages _ _).1 (n.1.1.0, last)))) in
            (w.0, (desk_none b desks desk).0 w.1.0, r.0, r.1, (own_is w.0 r.1 a c).0 q.1),
        λ h.
            let n = (stages _ _).0 ((plan_none h.0 p).1 (h.2, h.3)) in
            let m = (stages _ _).0 n.1 in
            let l = (stages _ _).0 m.1 in
            let k = (stages _ _).0 l.1 in
            s.1 (
              (with_book 1 b).1 (h.0, ((desk_none b desks desk).1 h.1, (n.0, (m.0, (l.0, (k.0, (k.1, tt))))))),
              (own_is h.0 h.3 a c).1 h.4,
            ),
      )

-- two answers that the contract of `judge_desk` permits are equal
pub desk_one : (b p desks : List ℕ) (desk : ℕ) (r s : Answer) → numbers_of r ≡ judged_desk b p desks desk
    → numbers_of s ≡ judged_desk b p desks desk → r ≡ s
desk_one b p desks desk = one_answer (judged_desk b p desks desk)
