-- "that desk gets equal answers on every plan": a judgement depends on the book's variables, on the plan, and on the list of decoded rules with
-- their numbers, and on nothing else of the book's words. Examples has two books that set a desk's rules at other offsets. Assumes nothing.
use mathlib.Core.Path.{◌≡◌, sym, ap, ◌∙◌}
use mathlib.Core.List.{List}
use Prim.Native.Nat.{ℕ, zero, suc, ◌+◌, ◌<◌}
use native.Mathlib.Nat.{add-zero}
use native.Mathlib.Omega.{arith}
use lib.ListN.{length, get_or}
use Rattle.words.specs.Words.{word}
use Rattle.words.proofs.Runs.{length_run}
use Rattle.answers.specs.Numbers.{or_else}
use Rattle.answers.proofs.Stages.{else_next}
use Rattle.layout.specs.Layout.{count, offset, values_of}
use Rattle.book.specs.Rules.{Value, Variable, Atom, value_at, variable_at, rules_of, variables_of}
use Rattle.book.specs.Encode.{atoms}
use Rattle.book.specs.Fault.{book_fault}
use Rattle.lines.specs.Lines.{line_of}
use Rattle.plan.specs.Fault.{value_place, plan_fault}
use Rattle.choice.specs.Met.{atom_holds}
use Rattle.verdict.specs.Judged.{judged}
use Rattle.claims.specs.Papers.{value_of, no_variable}
use Rattle.claims.specs.SamePlan.{SameVariables}
use Rattle.claims.proofs.SamePlan.{plan_same}
use Rattle.claims.proofs.Timelines.{values_length, value_at_lem}
use Rattle.desks.specs.List.{list_right}
use Rattle.desks.specs.Own.{Numbered, numbered, own_rules, own_fault, desk_fault, judged_desk}
use Rattle.desks_claims.proofs.Numbering.{rules_numbered, own_agree}
use Rattle.desks_claims.proofs.Undivided.{rules_long}
use Rattle.desks_claims.specs.Undisturbed.{plan_gets, SameFor}

-- ---- variables

module _ (b c : List ℕ) (same : variables_of b ≡ variables_of c) where
  -- there are as many
  variables_long : count b 0 ≡ count c 0
  unfolding variables_of
  variables_long = sym (length_run (variable_at b) 2 (count b 0) (offset b 0)) ∙ ap length same ∙ length_run (variable_at c) 2 (count c 0) (offset c 0)

  -- as many values in each
  values_same : (v : ℕ) → v < count b 0 → values_of 1 b v ≡ values_of 1 c v
  values_same v l =
      let m : v < count c 0 = omega (arith, variables_long) in
      sym (values_length b v l) ∙ ap (λ (w : List Variable). length (get_or w v no_variable).values) same ∙ values_length c v m

  -- and each the same
  value_same : (v x : ℕ) → v < count b 0 → x < values_of 1 b v → value_at b (value_place b v x) ≡ value_at c (value_place c v x)
  value_same v x l k =
      let m : v < count c 0 = omega (arith, variables_long) in
      let n : x < values_of 1 c v = omega (arith, values_same v l) in
      sym (value_at_lem b v l x k) ∙ ap (λ (w : List Variable). value_of (get_or w v no_variable) x) same ∙ value_at_lem c v m x n

  -- so are its three words
  word_same : (v x : ℕ) → v < count b 0 → x < values_of 1 b v → (j : ℕ) → j < 3 → word b (value_place b v x + j) ≡ word c (value_place c v x + j)
  unfolding value_at
  word_same v x l k zero m =
      ap (word b) (add-zero (value_place b v x)) ∙ ap (λ (w : Value). w.least) (value_same v x l k) ∙ sym (ap (word c) (add-zero (value_place c v x)))
  word_same v x l k (suc zero) m = ap (λ (w : Value). w.greatest) (value_same v x l k)
  word_same v x l k (suc (suc zero)) m = ap (λ (w : Value). w.successors) (value_same v x l k)
  word_same v x l k (suc (suc (suc j))) m = absurd (omega arith)

  pub variables_same : SameVariables b c
  variables_same = record { variables = variables_long; values = values_same; value = word_same }

-- it depends on the variables, the plan, and the numbered rules, and on nothing else of the words
pub depends : (b c p : List ℕ) → variables_of b ≡ variables_of c → (rules others : List (Numbered Atom)) → rules ≡ others
    → plan_gets b p rules ≡ plan_gets c p others
depends b c p same rules others is = rw (plan_same b c (variables_same b c same) p, is)

-- the undivided judgement of a sound book is that of all its rules
pub judged_gets : (b p : List ℕ) → (book_fault 1 b).number ≡ 0 → judged b p ≡ plan_gets b p (numbered 0 (rules_of atoms b))
unfolding judged
judged_gets b p sound = else_next (book_fault 1 b) _ sound ∙ ap (or_else (plan_fault b p)) (rules_numbered atom_holds (line_of p) (rules_of atoms b))

-- and a desk's that of its own, after 19
pub desk_gets : (b p desks : List ℕ) (desk : ℕ) → (book_fault 1 b).number ≡ 0
    → judged_desk b p desks desk ≡ or_else (desk_fault b desks desk) (plan_gets b p (own_rules desks desk (rules_of atoms b)))
unfolding judged_desk own_fault
desk_gets b p desks desk sound = else_next (book_fault 1 b) _ sound

-- THE THEOREM: "If two books both pass 1 to 4 .. that desk gets equal answers on every plan", any run of words
pub undisturbed : (b c desks : List ℕ) (desk : ℕ) → (book_fault 1 b).number ≡ 0 → (book_fault 1 c).number ≡ 0 → SameFor b c desks desk
    → (p : List ℕ) → judged_desk b p desks desk ≡ judged_desk c p desks desk
unfolding desk_fault list_right
undisturbed b c desks desk hb hc h p =
    let long = rules_long b in
    let rules = own_agree desks desk (rules_of atoms b) (rules_of atoms c) (long ∙ h.rules ∙ sym (rules_long c)) (λ i l o. h.own i (omega arith) o) in
    desk_gets b p desks desk hb
    ∙ rw (h.rules, depends b c p h.variables (own_rules desks desk (rules_of atoms b)) (own_rules desks desk (rules_of atoms c)) rules)
    (sym (desk_gets c p desks desk hc))
