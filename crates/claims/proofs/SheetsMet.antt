-- The direct judge's search tests a constraint just as it is meant: the tokens stand in a relation whose condition holds of their starts and
-- ends, and it is in the set. Asks that each token starts before it ends, which is so on every timeline of a plan over the book's state
-- variables, since no duration is 0. Assumes nothing.
use mathlib.Core.Path.{◌≡◌, refl, sym, ap, ◌∙◌, subst}
use mathlib.Core.Bool.{Bool, true, false, cond, ◌&&◌}
use mathlib.Core.Logic.{◌↔◌, ⊎_elim}
use mathlib.Core.List.{List, [], ◌∷◌}
use Prim.Native.Nat.{ℕ, zero, suc, ◌≤◌, ◌<◌}
use native.Mathlib.Decide.{dec_lt}
use native.Mathlib.Omega.{arith}
use lib.Dec.{ltb, eqb}
use lib.ListN.{length, get_or, get_or-eq_default}
use borrow.Author.Tests.{ltb-true, eqb-true, eqb-false, lt-ltb, eq-eqb}
use Rattle.words.specs.Words.{in_set}
use Rattle.words.specs.Lists.{All}
use Rattle.words.proofs.Runs.{length_run}
use Rattle.layout.specs.Layout.{count, offset}
use Rattle.book.specs.Rules.{Constraint, Alternative, Rule, variable_at, variables_of}
use Rattle.lines.specs.declared.Token.{Token}
use Rattle.lines.specs.Ends.{plan_end}
use Rattle.allen.specs.Relation.{conditions, relation_of}
use Rattle.allen.proofs.One.{stands_in, relation_below}
use Rattle.choice.specs.Met.{nobody, constraint_holds, met}
use Rattle.choice.specs.Exists as exists
use Rattle.choice.proofs.Exists.{choice_time}
use Rattle.verdict.specs.Judged.{untriggered, trigger_line}
use Rattle.claims.specs.Papers.{token_of, Plan, no_name, Met}
use Rattle.claims.specs.Sheets.{Relation, before, meets, overlaps, finished_by, contains, starts, equals, started_by, during, finishes, overlapped_by, met_by, after, Holds}
use Rattle.claims.proofs.Laws.{all-to, all_each}
use Rattle.claims.specs.Decoded.{NameFine, TriggerFine, AlternativeFine, RuleFine, ConstraintFine}
use Rattle.claims.specs.Matched.{Named}
use Rattle.claims.proofs.Matched.{and_so, all-at, Tells, met_by_lem}
use Rattle.claims.specs.SheetsMet.{Proper}

-- ---- the thirteen conditions

module _ (s e s' e' : ℕ) where
  -- a relation's condition, as the tests have it
  relation_test : {k : ℕ} → Relation s e s' e' k → (k < 13) × (get_or (conditions s e s' e') k false ≡ true)
  relation_test (before a) = (omega arith, lt-ltb e s' a)
  relation_test (meets a) = (omega arith, eq-eqb e s' a)
  relation_test (overlaps a b c) = (omega arith, rw (lt-ltb s s' a, lt-ltb s' e b, lt-ltb e e' c))
  relation_test (finished_by a b) = (omega arith, rw (lt-ltb s s' a, eq-eqb e e' b))
  relation_test (contains a b) = (omega arith, rw (lt-ltb s s' a, lt-ltb e' e b))
  relation_test (starts a b) = (omega arith, rw (eq-eqb s s' a, lt-ltb e e' b))
  relation_test (equals a b) = (omega arith, rw (eq-eqb s s' a, eq-eqb e e' b))
  relation_test (started_by a b) = (omega arith, rw (eq-eqb s s' a, lt-ltb e' e b))
  relation_test (during a b) = (omega arith, rw (lt-ltb s' s a, lt-ltb e e' b))
  relation_test (finishes a b) = (omega arith, rw (lt-ltb s' s a, eq-eqb e e' b))
  relation_test (overlapped_by a b c) = (omega arith, rw (lt-ltb s' s a, lt-ltb s e' b, lt-ltb e' e c))
  relation_test (met_by a) = (omega arith, eq-eqb e' s a)
  relation_test (after a) = (omega arith, lt-ltb e' s a)

  -- and back
  test_relation : (k : ℕ) → k < 13 → get_or (conditions s e s' e') k false ≡ true → Relation s e s' e' k
  test_relation zero l h = before (ltb-true _ _ h)
  test_relation (suc zero) l h = meets (eqb-true _ _ h)
  test_relation (suc (suc zero)) l h =
      let p = (and_so (ltb s s') (ltb s' e && ltb e e')).0 h in
      let q = (and_so (ltb s' e) (ltb e e')).0 p.1 in
      overlaps (ltb-true _ _ p.0) (ltb-true _ _ q.0) (ltb-true _ _ q.1)
  test_relation (suc (suc (suc zero))) l h = let p = (and_so (ltb s s') (eqb e e')).0 h in finished_by (ltb-true _ _ p.0) (eqb-true _ _ p.1)
  test_relation (suc (suc (suc (suc zero)))) l h = let p = (and_so (ltb s s') (ltb e' e)).0 h in contains (ltb-true _ _ p.0) (ltb-true _ _ p.1)
  test_relation (suc (suc (suc (suc (suc zero))))) l h = let p = (and_so (eqb s s') (ltb e e')).0 h in starts (eqb-true _ _ p.0) (ltb-true _ _ p.1)
  test_relation (suc (suc (suc (suc (suc (suc zero)))))) l h = let p = (and_so (eqb s s') (eqb e e')).0 h in equals (eqb-true _ _ p.0) (eqb-true _ _ p.1)
  test_relation (suc (suc (suc (suc (suc (suc (suc zero))))))) l h =
      let p = (and_so (eqb s s') (ltb e' e)).0 h in started_by (eqb-true _ _ p.0) (ltb-true _ _ p.1)
  test_relation (suc (suc (suc (suc (suc (suc (suc (suc zero)))))))) l h =
      let p = (and_so (ltb s' s) (ltb e e')).0 h in during (ltb-true _ _ p.0) (ltb-true _ _ p.1)
  test_relation (suc (suc (suc (suc (suc (suc (suc (suc (suc zero))))))))) l h =
      let p = (and_so (ltb s' s) (eqb e e')).0 h in finishes (ltb-true _ _ p.0) (eqb-true _ _ p.1)
  test_relation (suc (suc (suc (suc (suc (suc (suc (suc (suc (suc zero)))))))))) l h =
      let p = (and_so (ltb s' s) (ltb s e' && ltb e' e)).0 h in
      let q = (and_so (ltb s e') (ltb e' e)).0 p.1 in
      overlapped_by (ltb-true _ _ p.0) (ltb-true _ _ q.0) (ltb-true _ _ q.1)
  test_relation (suc (suc (suc (suc (suc (suc (suc (suc (suc (suc (suc zero))))))))))) l h = met_by (eqb-true _ _ h)
  test_relation (suc (suc (suc (suc (suc (suc (suc (suc (suc (suc (suc (suc zero)))))))))))) l h = after (ltb-true _ _ h)
  test_relation (suc (suc (suc (suc (suc (suc (suc (suc (suc (suc (suc (suc (suc k))))))))))))) l h = absurd (omega arith)

  -- so of two stretches that have a length `relation_of` is the one in which they stand
  relation_is : s < e → s' < e' → (k : ℕ) → Relation s e s' e' k ↔ (k ≡ relation_of s e s' e')
  relation_is h h' k = (
    λ r. let t = relation_test r in (stands_in s e s' e' h h' k t.0).0 t.1,
    λ q.
        let below = relation_below s e s' e' h h' in
        let l : k < 13 = omega arith in
        test_relation k l ((stands_in s e s' e' h h' k l).1 q),
  )

module _ (last : ℕ) (trigger : Token) (tokens : List Token) (few : length tokens ≤ 4) (proper : (k : ℕ) → Proper (token_of (trigger ∷ tokens) k)) where
  -- the test is that the relation is in the set
  pub constraint_iff : (q : Constraint) → (constraint_holds (exists.choice_of last trigger tokens) q ≡ true) ↔ Holds (trigger ∷ tokens) q
  unfolding constraint_holds
  constraint_iff q =
      let l = choice_time last trigger tokens q.left few in
      let r = choice_time last trigger tokens q.right few in
      let left : Token = token_of (trigger ∷ tokens) q.left in
      let right : Token = token_of (trigger ∷ tokens) q.right in
      let is = relation_is left.start.tick left.end.tick right.start.tick right.end.tick (proper q.left) (proper q.right) in
      rw (l.0, l.1, r.0, r.1) (
        λ h. record { relation = relation_of left.start.tick left.end.tick right.start.tick right.end.tick; stands = (is _).1 refl; inside = h },
        λ h. ap (in_set q.set) (sym ((is h.relation).0 h.stands)) ∙ h.inside,
      )

-- ---- tokens of a plan

-- what stands for a token past the end has a length too
past_proper : (line : List Token) → ((i : ℕ) → i < length line → Proper (token_of line i)) → (i : ℕ) → Proper (token_of line i)
past_proper line h i =
    elim (dec_lt i (length line)) [ yes l ↦ h i l | no n ↦ rw (get_or-eq_default line nobody {n = i} (omega arith)) (omega arith) ]

module _ (s : List ℕ) (lines : ℕ → List Token) (plan : Plan (variables_of s) lines) where
  -- no duration is 0: a token of a plan "starts .. and ends a duration later"
  line_proper : (v : ℕ) → v < count s 0 → (i : ℕ) → Proper (token_of (lines v) i)
  unfolding variables_of
  line_proper v l =
      let long : length (variables_of s) ≡ count s 0 = length_run (variable_at s) 2 (count s 0) (offset s 0) in
      past_proper (lines v) (plan.timeline v (omega arith)).forward

  -- the trigger's and the names' tokens
  mapping_proper : (trigger : Token) → Proper trigger → (a : Alternative Constraint) (tokens : List Token) → length tokens ≡ length a.names
      → All (NameFine 2 s) a.names → Named lines a tokens → (k : ℕ) → Proper (token_of (trigger ∷ tokens) k)
  mapping_proper trigger h a tokens long fine on zero = h
  mapping_proper trigger h a tokens long fine on (suc k) =
      past_proper tokens
      (λ i l.
      let o = on i l in
      subst Proper o.is (line_proper _ ((all-at (NameFine 2 s) no_name a.names).0 fine i (omega arith)).variable o.number))
      k

  -- a trigger token, or nobody
  pub trigger_proper : (r : Rule Constraint) → TriggerFine 2 s r.variable r.value → (i : ℕ) → Proper (token_of (trigger_line lines r) i)
  unfolding trigger_line
  trigger_proper r h i = by (untriggered r) refl
    where
      by : (t : Bool) → untriggered r ≡ t → Proper (token_of (cond t (nobody ∷ []) (lines r.variable)) i)
      by true e = past_proper (nobody ∷ []) (λ j l. let z : j ≡ 0 = omega arith in rw z (omega arith)) i
      by false e = ⊎_elim (λ q. absurd (eqb-false _ _ e q.0)) (λ q. line_proper r.variable q.variable i) h

  -- THE LAW: of a sheet, whose rules ask constraints
  pub sheet_met_iff : (r : Rule Constraint) → RuleFine ConstraintFine 2 s r → (t : Token) → Proper t
      → (met constraint_holds lines r t ≡ true) ↔ Met Holds lines r t
  sheet_met_iff r fine t h =
      met_by_lem constraint_holds Holds lines t r (all-to (AlternativeFine ConstraintFine 2 s _) _ tells r.alternatives fine.alternatives)
    where
      tells : {some : Bool} (a : Alternative Constraint) → AlternativeFine ConstraintFine 2 s some a → Tells constraint_holds Holds lines t a
      tells a f tokens long on =
          let few = f.few_names in
          all_each _ (constraint_iff (plan_end lines) t tokens (omega arith) (mapping_proper t h a tokens long f.names on)) a.asks
