-- "Demand 2 holds for each desk's rules", row 0: a desk accepts a plan exactly if the book is sound, the list and the desk are right, the plan is
-- a plan over the book's state variables and satisfies every rule of that desk, as the papers define it; "and the count is of its own triggers".
-- Specimens has plans that a desk accepts, and one that the other doesn't. Assumes nothing.
use mathlib.Core.Path.{◌≡◌, sym, ap, ◌∙◌, subst}
use mathlib.Core.Bool.{true, false, ◌&&◌}
use mathlib.Core.Logic.{◌↔◌}
use mathlib.Core.List.{List}
use Prim.Native.Nat.{ℕ, ◌<◌}
use native.Mathlib.Nat.{zero-add}
use lib.Dec.{leb, eqb}
use lib.ListN.{length, get_or}
use borrow.Author.Tests.{eqb-true, eq-eqb, leb-true, le-leb}
use Rattle.words.specs.Words.{word}
use Rattle.words.specs.Lists.{all}
use Rattle.answers.specs.declared.Numbers.{Numbers}
use Rattle.answers.specs.Numbers.{numbers}
use Rattle.answers.proofs.Stages.{else_next, stages, held}
use Rattle.layout.specs.Layout.{count}
use Rattle.book.specs.Rules.{Atom, Rule, rules_of, variables_of}
use Rattle.book.specs.Encode.{atoms}
use Rattle.book.specs.Sound.{Sound}
use Rattle.book.specs.Fault.{book_fault}
use Rattle.lines.specs.Lines.{line_of}
use Rattle.plan.specs.Fault.{plan_fault}
use Rattle.choice.specs.Met.{atom_holds}
use Rattle.verdict.specs.Judged.{no_rule, examined, rule_unmet}
use Rattle.claims.specs.Papers.{Plan, SatisfiedIn, Met, Satisfies}
use Rattle.claims.proofs.FaultsOfTables.{book_none}
use Rattle.claims.proofs.Matched.{and_so, all-at}
use Rattle.claims.specs.RulesMet.{Fails, Settles}
use Rattle.claims.proofs.RulesMet.{book_settles}
use Rattle.claims.specs.Accepted.{Examined}
use Rattle.claims.proofs.Accepted.{plan_none, examined-is, examined-one}
use Rattle.desks.specs.List.{list_right}
use Rattle.desks.specs.Own.{own_rules, numbered_fault, own_fault, desk_fault, judged_desk}
use Rattle.desks.proofs.Lists as lists
use Rattle.desks_claims.proofs.Numbering.{from-none, from-count, own_each}
use Rattle.desks_claims.specs.Accepted.{ListFits, DeskFits, EachOwn, DeskAccepted, own}

-- ---- the list and the desk

-- the test of a list says just that
pub list_iff : (b desks : List ℕ) → (list_right b desks ≡ true) ↔ ListFits b desks
unfolding list_right
list_iff b desks =
    let a = and_so (eqb (length desks) (count b 2)) (all (λ w. leb w 1) desks) in (
      λ h.
          let q = a.0 h in
          record { long = eqb-true _ _ q.0; low = λ i l. leb-true (word desks i) 1 (lists.at_all (λ w. leb w 1) 0 desks q.1 i l) },
      λ f. a.1 (eq-eqb _ _ f.long, lists.all-at (λ w. leb w 1) 0 desks (λ i l. le-leb (word desks i) 1 (f.low i l))),
    )

-- and 19 isn't given just where both are right
pub desk_none : (b desks : List ℕ) (desk : ℕ) → ((desk_fault b desks desk).number ≡ 0) ↔ DeskFits b desks desk
unfolding desk_fault
desk_none b desks desk =
    let a = and_so (list_right b desks) (leb desk 1) in (
      λ h.
          let q = a.0 (held (list_right b desks && leb desk 1) 18 0 0 h) in
          record { list = (list_iff b desks).0 q.0; asked = leb-true desk 1 q.1 },
      λ f.
          let q : (list_right b desks && leb desk 1) ≡ true = a.1 ((list_iff b desks).1 f.list, le-leb desk 1 f.asked) in
          rw q,
    )

-- ---- the desk's own rules

module _ (b p desks : List ℕ) (desk : ℕ) where
  -- the judge's test of each rule settles whether the plan satisfies it
  pub settled : Sound 1 b → Plan (variables_of b) (line_of p) → (i : ℕ) → i < length (rules_of atoms b)
      → Settles atom_holds (line_of p) (get_or (rules_of atoms b) i no_rule) (Satisfies (SatisfiedIn (line_of p)) (line_of p) (get_or (rules_of atoms b) i no_rule))
      (Fails (line_of p) (get_or (rules_of atoms b) i no_rule) (Met (SatisfiedIn (line_of p)) (line_of p) (get_or (rules_of atoms b) i no_rule)))
  settled s plan = (all-at _ no_rule (rules_of atoms b)).0 (book_settles (line_of p) s plan)

  -- the desk's own rules give no fault just where the plan satisfies each of them
  own-none : Sound 1 b → Plan (variables_of b) (line_of p)
      → ((own_fault b p desks desk).number ≡ 0) ↔ EachOwn desks desk (Satisfies (SatisfiedIn (line_of p)) (line_of p)) (rules_of atoms b)
  unfolding own_fault numbered_fault
  own-none s plan =
      let f = from-none atom_holds (line_of p) 0 (own_rules desks desk (rules_of atoms b)) in
      let e = own_each desks desk (λ (r : Rule Atom). rule_unmet atom_holds (line_of p) r ≡ false) (rules_of atoms b) in
      let t = settled s plan in (
        λ h i l o. (t i l).satisfied.0 (e.0 (f.0 h) i l o),
        λ h. f.1 (e.1 (λ i l o. (t i l).satisfied.1 (h i l o))),
      )

  -- and then the count
  own-count : (own_fault b p desks desk).number ≡ 0 → own_fault b p desks desk ≡ numbers 0 (examined (line_of p) (own b desks desk)) 0
  unfolding own_fault numbered_fault
  own-count h =
      rw (zero-add (examined (line_of p) (own b desks desk))) at (from-count atom_holds (line_of p) 0 (own_rules desks desk (rules_of atoms b)) h)

  -- ---- THE THEOREMS

  -- a desk accepts exactly if
  pub desk_accepted : ((judged_desk b p desks desk).number ≡ 0) ↔ DeskAccepted b p desks desk
  unfolding judged_desk
  desk_accepted = (
    λ h.
        let s = (stages (book_fault 1 b) _).0 h in
        let d = (stages (desk_fault b desks desk) _).0 s.1 in
        let t = (stages (plan_fault b p) _).0 d.1 in
        let sound = (book_none 1 b).0 s.0 in
        let q = (plan_none sound p).0 t.0 in
        record { book = sound; desk = (desk_none b desks desk).0 d.0; tables = q.0; plan = q.1; satisfied = (own-none sound q.1).0 t.1 },
    λ a.
        (stages (book_fault 1 b) _).1 (
          (book_none 1 b).1 a.book,
          (stages (desk_fault b desks desk) _).1 (
            (desk_none b desks desk).1 a.desk,
            (stages (plan_fault b p) _).1 ((plan_none a.book p).1 (a.tables, a.plan), (own-none a.book a.plan).1 a.satisfied),
          ),
        ),
  )

  -- and then the answer has the count
  pub desk_answer : (judged_desk b p desks desk).number ≡ 0 → judged_desk b p desks desk ≡ numbers 0 (examined (line_of p) (own b desks desk)) 0
  unfolding judged_desk
  desk_answer h =
      let s = (stages (book_fault 1 b) _).0 h in
      let d = (stages (desk_fault b desks desk) _).0 s.1 in
      let t = (stages (plan_fault b p) _).0 d.1 in
      else_next _ _ s.0 ∙ else_next _ _ d.0 ∙ else_next _ _ t.0 ∙ own-count t.1

  -- "and the count is of its own triggers"
  pub desk_accepted_count : (n : ℕ) → (judged_desk b p desks desk ≡ numbers 0 n 0)
      ↔ (DeskAccepted b p desks desk × Examined (line_of p) (own b desks desk) n)
  desk_accepted_count n = (
    λ h.
        let z = ap (λ (r : Numbers). r.number) h in
        let same = ap (λ (r : Numbers). r.a) (sym (desk_answer z) ∙ h) in
        (desk_accepted.0 z, subst (Examined (line_of p) (own b desks desk)) same (examined-is (line_of p) (own b desks desk))),
    λ h. desk_answer (desk_accepted.1 h.0) ∙ ap (λ (k : ℕ). numbers 0 k 0) (examined-one (line_of p) h.1),
  )
