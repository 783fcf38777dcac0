-- "Easing a book must not fail a plan": "if a plan gets 0", and the book is eased, "and the new book passes 1 to 4, then the plan gets 0 again",
-- with the same count for additions alone, and with removals "smaller by exactly what the removed rules counted"; "the same holds for each desk of
-- L5, its list closed up". EasingExamples has an input for each. Assumes nothing.
use mathlib.Core.Path.{◌≡◌, refl, sym, ap, ◌∙◌}
use mathlib.Core.Logic.{◌↔◌}
use mathlib.Core.List.{List, [], ◌∷◌}
use Prim.Native.Nat.{ℕ, suc, ◌+◌, ◌≤◌}
use native.Mathlib.Nat.{zero-add}
use native.Mathlib.Omega.{arith}
use lib.ListN.{length}
use Rattle.words.specs.Lists.{All}
use Rattle.answers.specs.declared.Numbers.{Numbers}
use Rattle.answers.specs.Numbers.{numbers}
use Rattle.answers.proofs.Stages.{else_next, stages}
use Rattle.layout.specs.Layout.{count}
use Rattle.book.specs.Rules.{Atom, Rule, rules_of, variables_of}
use Rattle.book.specs.Encode.{atoms}
use Rattle.book.specs.Fault.{book_fault}
use Rattle.lines.specs.Lines.{line_of}
use Rattle.plan.specs.Fault.{plan_fault}
use Rattle.choice.specs.Met.{atom_holds}
use Rattle.verdict.specs.Judged.{examined, judged}
use Rattle.claims.proofs.Matched.{all-at}
use Rattle.claims.proofs.FaultsOfTables.{book_none}
use Rattle.claims.proofs.Accepted.{accepted, examined-is, examined-one}
use Rattle.desks.specs.Own.{Numbered, numbered, of_desk, own_rules, numbered_fault, desk_fault, judged_desk}
use Rattle.desks_claims.specs.Numbering.{rules_alone}
use Rattle.desks_claims.proofs.Numbering.{from-none, from-count}
use Rattle.desks_claims.specs.Accepted.{DeskFits, own}
use Rattle.desks_claims.proofs.Accepted.{desk_none, desk_accepted}
use Rattle.desks_claims.proofs.Undivided.{rules_long}
use Rattle.desks_claims.specs.Undisturbed.{plan_gets}
use Rattle.desks_claims.proofs.Undisturbed.{depends, judged_gets, desk_gets}
use Rattle.desks_claims.specs.Eased.{Eased, closed_up}
use Rattle.desks_claims.proofs.EasingLaws.{Fine, eased_fine, eased_count, closed-long, closed_all, own_fine, own-count}
use Rattle.desks_claims.specs.Easing.{Again, own_gone}

-- ---- rules with their numbers, and without

all_alone : (P : Rule Atom → Type 0) (xs : List (Numbered Atom)) → All (λ (x : Numbered Atom). P x.rule) xs ↔ All P (rules_alone xs)
all_alone P [] = (λ h. tt, λ h. tt)
all_alone P (x ∷ xs) = let r = all_alone P xs in (λ h. (h.0, r.0 h.1), λ h. (h.0, r.1 h.1))

alone_numbered : (from : ℕ) (rules : List (Rule Atom)) → rules_alone (numbered from rules) ≡ rules
unfolding numbered
alone_numbered from [] = refl
alone_numbered from (r ∷ rules) = rw (alone_numbered (suc from) rules)

-- THE LAW: where the rules of xs that are met stay met in ys, and ys counts k less, a plan that gets 0 by xs gets 0 by ys, with k less
gets_again : (b c p : List ℕ) → variables_of b ≡ variables_of c → (xs ys : List (Numbered Atom)) (k : ℕ)
    → (All (Fine atom_holds (line_of p)) (rules_alone xs) → All (Fine atom_holds (line_of p)) (rules_alone ys))
    → examined (line_of p) (rules_alone xs) ≡ examined (line_of p) (rules_alone ys) + k
    → (n : ℕ) → plan_gets b p xs ≡ numbers 0 n 0
    → (plan_gets c p ys ≡ numbers 0 (examined (line_of p) (rules_alone ys)) 0) × (n ≡ examined (line_of p) (rules_alone ys) + k)
unfolding numbered_fault
gets_again b c p same xs ys k fine count n h =
    let z = (stages (plan_fault b p) _).0 (ap (λ (r : Numbers). r.number) h) in
    let met = (from-none atom_holds (line_of p) 0 xs).0 z.1 in
    let still = fine ((all_alone (Fine atom_holds (line_of p)) xs).0 met) in
    let none = (from-none atom_holds (line_of p) 0 ys).1 ((all_alone (Fine atom_holds (line_of p)) ys).1 still) in
    let old = else_next (plan_fault b p) _ z.0 ∙ from-count atom_holds (line_of p) 0 xs z.1 in
    let new = else_next (plan_fault b p) _ z.0 ∙ from-count atom_holds (line_of p) 0 ys none in
    let total : 0 + examined (line_of p) (rules_alone xs) ≡ n = ap (λ (r : Numbers). r.a) (sym old ∙ h) in
    (sym (depends b c p same ys ys refl) ∙ rw (zero-add (examined (line_of p) (rules_alone ys))) at new, omega arith)

-- ---- THE THEOREMS

module _ (b c : List ℕ) (variables : variables_of b ≡ variables_of c) (sound : (book_fault 1 c).number ≡ 0) {gone : List (Rule Atom)}
    (h : Eased (rules_of atoms b) (rules_of atoms c) gone) (p : List ℕ) where
  -- "if a plan gets 0 .. then the plan gets 0 again .. with removals it is smaller by exactly what the removed rules counted"
  pub eased : (n : ℕ) → judged b p ≡ numbers 0 n 0 → Again (judged c p) (line_of p) gone n
  eased n e =
      let z = (book_none 1 b).1 ((accepted b p).0 (ap (λ (r : Numbers). r.number) e)).book in
      let x = alone_numbered 0 (rules_of atoms b) in
      let y = alone_numbered 0 (rules_of atoms c) in
      let q = gets_again b c p variables (numbered 0 (rules_of atoms b)) (numbered 0 (rules_of atoms c)) (examined (line_of p) gone)
      (rw (x, y) (eased_fine atom_holds (line_of p) h)) (rw (x, y) (eased_count (line_of p) h)) n (sym (judged_gets b p z) ∙ e) in
      record {
        left = examined (line_of p) (rules_of atoms c);
        went = examined (line_of p) gone;
        gets = judged_gets c p sound ∙ rw y at q.0;
        counted = examined-is (line_of p) gone;
        sum = rw y at q.1;
      }

  -- a desk's list is right for the eased book once it is closed up
  closed_fits : (desks : List ℕ) (desk : ℕ) → DeskFits b desks desk → DeskFits c (closed_up h desks) desk
  closed_fits desks desk f =
      let long : length desks ≡ length (rules_of atoms b) = f.list.long ∙ sym (rules_long b) in
      let low = closed_all (λ w. w ≤ 1) h desks ((all-at (λ w. w ≤ 1) 0 desks).1 f.list.low) in
      record {
        list = record { long = closed-long h desks long ∙ rules_long c; low = (all-at (λ w. w ≤ 1) 0 (closed_up h desks)).0 low };
        asked = f.asked;
      }

  -- "The same holds for each desk of L5, its list closed up"
  pub desk_eased : (desks : List ℕ) (desk n : ℕ) → judged_desk b p desks desk ≡ numbers 0 n 0
      → Again (judged_desk c p (closed_up h desks) desk) (line_of p) (own_gone h desks desk) n
  desk_eased desks desk n e =
      let a = (desk_accepted b p desks desk).0 (ap (λ (r : Numbers). r.number) e) in
      let z = (book_none 1 b).1 a.book in
      let f = a.desk in
      let long : length desks ≡ length (rules_of atoms b) = f.list.long ∙ sym (rules_long b) in
      let right = (desk_none b desks desk).1 f in
      let right-too = (desk_none c (closed_up h desks) desk).1 (closed_fits desks desk f) in
      let gets = sym (else_next (desk_fault b desks desk) _ right) ∙ sym (desk_gets b p desks desk z) ∙ e in
      let q = gets_again b c p variables (own_rules desks desk (rules_of atoms b)) (own_rules (closed_up h desks) desk (rules_of atoms c))
      (examined (line_of p) (own_gone h desks desk)) (own_fine atom_holds (line_of p) desk h desks long)
      (own-count (line_of p) desk h desks long) n gets in
      record {
        left = examined (line_of p) (own c (closed_up h desks) desk);
        went = examined (line_of p) (own_gone h desks desk);
        gets = desk_gets c p (closed_up h desks) desk sound ∙ else_next (desk_fault c (closed_up h desks) desk) _ right-too ∙ q.0;
        counted = examined-is (line_of p) (own_gone h desks desk);
        sum = q.1;
      }

-- "With additions alone the count is the same"
module _ (b c : List ℕ) (variables : variables_of b ≡ variables_of c) (sound : (book_fault 1 c).number ≡ 0)
    (h : Eased (rules_of atoms b) (rules_of atoms c) []) (p : List ℕ) where
  pub added : (n : ℕ) → judged b p ≡ numbers 0 n 0 → judged c p ≡ numbers 0 n 0
  unfolding examined
  added n e =
      let q = eased b c variables sound h p n e in
      let nothing : 0 ≡ q.went = examined-one (line_of p) q.counted in
      let s = q.sum in
      q.gets ∙ ap (λ (k : ℕ). numbers 0 k 0) (omega arith)

  pub desk_added : (desks : List ℕ) (desk n : ℕ) → judged_desk b p desks desk ≡ numbers 0 n 0 → judged_desk c p (closed_up h desks) desk ≡ numbers 0 n 0
  unfolding examined numbered of_desk own_rules
  desk_added desks desk n e =
      let q = desk_eased b c variables sound h p desks desk n e in
      let nothing : 0 ≡ q.went = examined-one (line_of p) q.counted in
      let s = q.sum in
      q.gets ∙ ap (λ (k : ℕ). numbers 0 k 0) (omega arith)
