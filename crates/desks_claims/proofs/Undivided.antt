-- The undivided judge and the two desks, whose list has one word for each rule: it accepts exactly if both do, and their counts add up to its
-- own. Assumes nothing.
use mathlib.Core.Path.{◌≡◌, sym, ap, ◌∙◌}
use mathlib.Core.Logic.{◌↔◌}
use mathlib.Core.List.{List}
use Prim.Native.Nat.{ℕ, ◌+◌, ◌≤◌, ◌<◌}
use native.Mathlib.Decide.{ℕ_discrete}
use native.Mathlib.Omega.{arith}
use lib.ListN.{length}
use Rattle.words.specs.Words.{word}
use Rattle.words.proofs.Runs.{length_run}
use Rattle.answers.specs.declared.Numbers.{Numbers}
use Rattle.answers.specs.Numbers.{numbers}
use Rattle.layout.specs.Layout.{count, offset}
use Rattle.book.specs.Rules.{rule_at, rules_of}
use Rattle.book.specs.Encode.{atoms}
use Rattle.lines.specs.Lines.{line_of}
use Rattle.verdict.specs.Judged.{no_rule, examined, judged}
use Rattle.claims.specs.Papers.{SatisfiedIn, Satisfies}
use Rattle.claims.proofs.Matched.{all-at}
use Rattle.claims.specs.Accepted.{Accepted}
use Rattle.claims.proofs.Accepted.{accepted, accepted_count, examined-is}
use Rattle.desks.specs.Own.{judged_desk}
use Rattle.desks_claims.proofs.Numbering.{shared}
use Rattle.desks_claims.specs.Accepted.{ListFits, DeskAccepted}
use Rattle.desks_claims.proofs.Accepted.{desk_accepted, desk_answer}

-- the book has so many rules
pub rules_long : (b : List ℕ) → length (rules_of atoms b) ≡ count b 2
unfolding rules_of
rules_long b = length_run (rule_at atoms b) 4 (count b 2) (offset b 2)

module _ (b p desks : List ℕ) (f : ListFits b desks) where
  -- each rule is 0's or 1's
  low : (i : ℕ) → i < length (rules_of atoms b) → word desks i ≤ 1
  low i l = f.low i (omega (arith, rules_long b, f.long))

  -- what satisfies all rules satisfies each desk's
  to_desk : (desk : ℕ) → desk ≤ 1 → Accepted b p → DeskAccepted b p desks desk
  to_desk desk d a =
      let each = (all-at (Satisfies (SatisfiedIn (line_of p)) (line_of p)) no_rule (rules_of atoms b)).0 a.satisfied in
      record { book = a.book; desk = record { list = f; asked = d }; tables = a.tables; plan = a.plan; satisfied = λ i l o. each i l }

  -- and what satisfies both desks' satisfies all
  from_desks : DeskAccepted b p desks 0 → DeskAccepted b p desks 1 → Accepted b p
  from_desks x y =
      record {
        book = x.book;
        tables = x.tables;
        plan = x.plan;
        satisfied = (all-at (Satisfies (SatisfiedIn (line_of p)) (line_of p)) no_rule (rules_of atoms b)).1
            (λ i l.
            elim (ℕ_discrete (word desks i) 0) [ yes e ↦ x.satisfied i l e | no n ↦ y.satisfied i l (omega (arith, low i l)) ]);
      }

  -- so what the judge accepts each desk accepts
  desk_too : (desk : ℕ) → desk ≤ 1 → (judged b p).number ≡ 0 → (judged_desk b p desks desk).number ≡ 0
  desk_too desk d h = (desk_accepted b p desks desk).1 (to_desk desk d ((accepted b p).0 h))

  -- and what both desks accept the judge accepts
  judge_too : (judged_desk b p desks 0).number ≡ 0 → (judged_desk b p desks 1).number ≡ 0 → (judged b p).number ≡ 0
  judge_too g h = (accepted b p).1 (from_desks ((desk_accepted b p desks 0).0 g) ((desk_accepted b p desks 1).0 h))

  -- THE THEOREMS: accepted exactly if both desks accept
  pub both_accept : ((judged b p).number ≡ 0) ↔ (((judged_desk b p desks 0).number ≡ 0) × ((judged_desk b p desks 1).number ≡ 0))
  both_accept = (λ h. (desk_too 0 (omega arith) h, desk_too 1 (omega arith) h), λ h. judge_too h.0 h.1)

  -- what the judge counts, where it accepts
  counts_all : (judged b p).number ≡ 0 → judged b p ≡ numbers 0 (examined (line_of p) (rules_of atoms b)) 0
  counts_all h = (accepted_count b p (examined (line_of p) (rules_of atoms b))).1 ((accepted b p).0 h, examined-is (line_of p) (rules_of atoms b))

  -- and the counts add up
  pub counts_add : (n : ℕ) → (judged b p ≡ numbers 0 n 0)
      ↔ ((k : ℕ) × (m : ℕ) × (judged_desk b p desks 0 ≡ numbers 0 k 0) × (judged_desk b p desks 1 ≡ numbers 0 m 0) × (n ≡ k + m))
  counts_add n =
      let sum = shared (line_of p) desks (rules_of atoms b) low in (
        λ h.
            let z = ap (λ (r : Numbers). r.number) h in
            let all : n ≡ examined (line_of p) (rules_of atoms b) = ap (λ (r : Numbers). r.a) (sym h ∙ counts_all z) in
            (_, _, desk_answer b p desks 0 (desk_too 0 (omega arith) z), desk_answer b p desks 1 (desk_too 1 (omega arith) z), all ∙ sum),
        λ h.
            let g = ap (λ (r : Numbers). r.number) h.2 in
            let d = ap (λ (r : Numbers). r.number) h.3 in
            let z = judge_too g d in
            let x = ap (λ (r : Numbers). r.a) (sym (desk_answer b p desks 0 g) ∙ h.2) in
            let y = ap (λ (r : Numbers). r.a) (sym (desk_answer b p desks 1 d) ∙ h.3) in
            let e = h.4 in
            counts_all z ∙ ap (λ (k : ℕ). numbers 0 k 0) (omega arith),
      )
