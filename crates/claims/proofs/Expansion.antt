-- A sheet's alternative is met just where one of those is that it becomes, so the rules of the book get the sheet's answer from 12 on. Asks
-- for tokens that have a length, which SamePlan shows of a plan without the faults 5 to 11. Assumes nothing.
use mathlib.Core.Path.{◌≡◌, refl, sym, ap, ◌∙◌}
use mathlib.Core.Bool.{Bool, true, false, ◌&&◌, ◌||◌, not, cond}
use mathlib.Core.List.{List, [], ◌∷◌, map, flat_map}
use Prim.Native.Nat.{ℕ, zero, suc, ◌+◌, ◌≤◌, ◌<◌}
use native.Mathlib.Nat.{add-zero}
use native.Mathlib.Numerals.{add-one}
use native.Mathlib.Decide.{dec_le, ℕ_discrete}
use native.Mathlib.Omega.{arith}
use lib.ListN.{length, get_or, length-map, get_or-map}
use lib.Dec.{ltb, leb, eqb, lit<}
use borrow.Author.Tests.{leb-true, leb-false, eqb-true, eq-eqb, ne_eqb}
use Rattle.words.specs.Words.{in_set}
use Rattle.words.specs.Least.{first}
use Rattle.words.proofs.Least.{first-none}
use Rattle.words.specs.Lists.{any, all, All}
use Rattle.words.proofs.Lists.{any_same, all_append, any-map, any_flat, any-and, any_and_right, any-any, and-true, and-false, all_get, any_on}
use Rattle.clock.specs.Clock.{no_limit, in_bounds}
use Rattle.book.specs.Rules.{Name, Constraint, Alternative, Rule}
use Rattle.lines.specs.declared.Token.{Token}
use Rattle.lines.specs.Ends.{plan_end}
use Rattle.allen.specs.Relation.{conditions, relation_of, thirteen}
use Rattle.allen.proofs.One.{one_relation, relation_below}
use Rattle.allen.specs.Atoms.{relations, atoms_of}
use Rattle.choice.specs.Met.{Choice, nobody, triggered, put, token_time, time_of, bounds_hold, atom_holds, constraint_holds, place, alternative_met, met}
use Rattle.choice.specs.Exists.{chosen, choice_of}
use Rattle.choice.proofs.Exists.{choice_time}
use Rattle.choice.proofs.Laws.{put_first, put_second, put_else, put_out, put-long}
use Rattle.listing.specs.Expand.{keep, relations_in, choices, atoms_for, expand, translate}
use Rattle.verdict.specs.Judged.{no_rule, untriggered, trigger_line, is_trigger, examined, unmet, first_unmet, rule_unmet, rules_fault}
use Rattle.claims.proofs.Laws.{first-map, first_on}
use Rattle.claims.specs.Expansion.{Proper, ProperChoice, NameBelow, RuleBelow}

-- the trigger alone
trigger_choice : (last : ℕ) (t : Token) → Proper t → ProperChoice (triggered last t)
unfolding choice_of chosen
trigger_choice last t h =
    record { size = refl; forward = λ k. let c = choice_time last t [] k (omega arith) in rw (c.0, c.1) (each k) }
  where
    each : (k : ℕ) → Proper (get_or (t ∷ []) k nobody)
    each zero = h
    each (suc k) = lit< tt

-- a token with a length, put into the choice, which has places for four names
put_proper : (c : Choice) (k start end job : ℕ) → ProperChoice c → start < end → ProperChoice (put c k start end job)
put_proper c k start end job h l =
    elim (dec_le k 4) [
      | yes m ↦ record { size = put-long c k start end job ∙ h.size; forward = there m }
      | no n ↦ rw (put_out c k start end job (omega (arith, h.size))) h
    ]
  where
    there : k ≤ 4 → (x : ℕ) → token_time (put c k start end job) 0 x < token_time (put c k start end job) 1 x
    there m x =
        elim (ℕ_discrete x k) [
          | yes e ↦ rw (e, put_first c k start end job (omega (arith, h.size)), put_second c k start end job (omega (arith, h.size))) l
          | no n ↦ rw (put_else c k start end job 0 x (omega arith) n, put_else c k start end job 1 x (omega arith) n) (h.forward x)
        ]

-- ---- one constraint

less : (p q : ℕ) → in_bounds no_limit p q 1 no_limit ≡ ltb p q
unfolding in_bounds
less p q = and-true (leb (p + 1) q) ∙ rw add-one

equal : (p q : ℕ) → in_bounds no_limit p q 0 0 ≡ eqb p q
unfolding in_bounds
equal p q = rw add-zero (sym (split (leb p q) (leb q p) refl refl))
  where
    split : (a b : Bool) → leb p q ≡ a → leb q p ≡ b → eqb p q ≡ (a && b)
    split true true h k = omega (arith, leb-true, eq-eqb)
    split true false h k = omega (arith, leb-true, leb-false, ne_eqb)
    split false b h k = omega (arith, leb-false, ne_eqb)

-- of two tokens that have a length, the atoms of just the one relation hold in which they stand
pub atoms_hold : (c : Choice) → ProperChoice c → (l r : ℕ)
    → map (all (atom_holds c)) (relations l r)
    ≡ map (λ (k : ℕ). eqb k (relation_of (token_time c 0 l) (token_time c 1 l) (token_time c 0 r) (token_time c 1 r))) thirteen
unfolding all atom_holds bounds_hold time_of
atoms_hold c h l r =
    simp (less, equal, and-true) (one_relation (token_time c 0 l) (token_time c 1 l) (token_time c 0 r) (token_time c 1 r) (h.forward l) (h.forward r))

any-keep : (p q : ℕ → Bool) (ks : List ℕ) → any q (keep p ks) ≡ any (λ k. p k && q k) ks
unfolding any keep
any-keep p q [] = refl
any-keep p q (k ∷ ks) = step (p k) ∙ rw (any-keep p q ks)
  where
    step : (b : Bool) → any q (cond b (k ∷ keep p ks) (keep p ks)) ≡ (b && q k || any q (keep p ks))
    step true = refl
    step false = refl

-- only the element r itself is asked
any-one : (p : ℕ → Bool) (r : ℕ) (ks : List ℕ) → any (λ k. p k && eqb k r) ks ≡ (any (λ k. eqb k r) ks && p r)
any-one p r ks = any_same (λ k. p k && eqb k r) (λ k. eqb k r && p r) (λ k. turn k (eqb k r) refl) ks ∙ any_and_right (λ k. eqb k r) (p r) ks
  where
    turn : (k : ℕ) (b : Bool) → eqb k r ≡ b → (p k && b) ≡ (b && p r)
    turn k true e = and-true (p k) ∙ ap p (eqb-true k r e)
    turn k false e = and-false (p k)

-- p, at the numbers from k on for which the list says true
abbrev weigh : (ℕ → Bool) → ℕ → List Bool → Bool
weigh p k [] = false
weigh p k (b ∷ bs) = p k && b || weigh p (suc k) bs

-- where the first one that holds is among them, one holds
some_holds : (bs : List Bool) → first (λ b. b) bs < length bs → any (λ b. b) bs ≡ true
some_holds bs l = go (any (λ b. b) bs) refl
  where
    go : (t : Bool) → any (λ b. b) bs ≡ t → any (λ b. b) bs ≡ true
    go true e = e
    go false e = absurd (omega (arith, first-none (λ b. b) bs e))

-- so the relation in which two stretches stand is one of the thirteen
one_of_thirteen : (s e s' e' : ℕ) → s < e → s' < e' → any (λ k. eqb k (relation_of s e s' e')) thirteen ≡ true
unfolding relation_of
one_of_thirteen s e s' e' h h' =
    sym (any-map (λ b. b) (λ k. eqb k (relation_of s e s' e')) thirteen)
    ∙ ap (any (λ b. b)) (sym (one_relation s e s' e' h h'))
    ∙ some_holds (conditions s e s' e') (relation_below s e s' e' h h')

-- "a constraint holds when that one is in the set": the atoms of one of the set's relations hold
constraint_is : (c : Choice) (q : Constraint) → ProperChoice c
    → any (λ k. all (atom_holds c) (atoms_of k q.left q.right)) (relations_in q.set) ≡ constraint_holds c q
unfolding constraint_holds atoms_of any relations_in
constraint_is c q h =
    let l : ℕ = q.left in
    let r : ℕ = q.right in
    let rel : ℕ = relation_of (token_time c 0 l) (token_time c 1 l) (token_time c 0 r) (token_time c 1 r) in
    any-keep (in_set q.set) (λ k. all (atom_holds c) (atoms_of k l r)) thirteen
    ∙ ap (weigh (in_set q.set) 0) (atoms_hold c h l r)
    ∙ any-one (in_set q.set) rel thirteen
    ∙ rw (one_of_thirteen _ _ _ _ (h.forward l) (h.forward r))

-- ---- all constraints of an alternative, for one choice of tokens

-- one of the choices of relations has only atoms that hold: every constraint holds
choices_are : (c : Choice) → ProperChoice c → (qs : List Constraint)
    → any (λ ks. all (atom_holds c) (atoms_for qs ks)) (choices qs) ≡ all (constraint_holds c) qs
unfolding choices atoms_for all any
choices_are c h [] = refl
choices_are c h (q ∷ qs) =
    any_flat holds (λ (k : ℕ). map (λ (rest : List ℕ). k ∷ rest) (choices qs)) (relations_in q.set)
    ∙ any_same _ (λ k. here k && any later (choices qs)) each (relations_in q.set)
    ∙ any_and_right here (any later (choices qs)) (relations_in q.set)
    ∙ rw (constraint_is c q h, choices_are c h qs)
  where
    holds : List ℕ → Bool
    holds ks = all (atom_holds c) (atoms_for (q ∷ qs) ks)

    here : ℕ → Bool
    here k = all (atom_holds c) (atoms_of k q.left q.right)

    later : List ℕ → Bool
    later ks = all (atom_holds c) (atoms_for qs ks)

    each : (k : ℕ) → any holds (map (λ (rest : List ℕ). k ∷ rest) (choices qs)) ≡ (here k && any later (choices qs))
    each k =
        any-map holds (λ (rest : List ℕ). k ∷ rest) (choices qs)
        ∙ any_same _ (λ rest. here k && later rest) (λ rest. all_append (atom_holds c) (atoms_of k q.left q.right) (atoms_for qs rest)) (choices qs)
        ∙ any-and (here k) later (choices qs)

-- ---- one choice of tokens for all

module _ (lines : ℕ → List Token) where
  -- choosing x and then tokens is choosing tokens and then x
  place-any : {X : Type 0} (p : X → Choice → Bool) (xs : List X) (ns : List Name) (k : ℕ) (c : Choice)
      → any (λ x. place lines (p x) ns k c) xs ≡ place lines (λ d. any (λ x. p x d) xs) ns k c
  unfolding place
  place-any p xs [] k c = refl
  place-any p xs (n ∷ ns) k c =
      any-any (λ x t. eqb t.value n.value && place lines (p x) ns (k + 1) (put c k t.start.tick t.end.tick t.job)) xs (lines n.variable)
      ∙ any_same _ _
      (λ t.
      any-and (eqb t.value n.value) (λ x. place lines (p x) ns (k + 1) (put c k t.start.tick t.end.tick t.job)) xs
      ∙ rw (place-any p xs ns (k + 1) (put c k t.start.tick t.end.tick t.job)))
      (lines n.variable)

  module _ (m : ℕ) (proper : (v : ℕ) → v < m → All Proper (lines v)) where
    -- tests that agree on every proper choice
    place_on : (p q : Choice → Bool) → ((c : Choice) → ProperChoice c → p c ≡ q c)
        → (ns : List Name) → All (NameBelow m) ns → (k : ℕ) (c : Choice) → ProperChoice c → place lines p ns k c ≡ place lines q ns k c
    unfolding place
    place_on p q h [] b k c a = h c a
    place_on p q h (n ∷ ns) b k c a =
        any_on Proper _ _
        (λ t l. rw (place_on p q h ns b.1 (k + 1) (put c k t.start.tick t.end.tick t.job) (put_proper c k t.start.tick t.end.tick t.job a l)))
        (lines n.variable)
        (proper n.variable b.0)

    -- an alternative is met just where one of those is that it becomes
    pub expand-met : (c : Choice) → ProperChoice c → (a : Alternative Constraint) → All (NameBelow m) a.names
        → any (alternative_met atom_holds lines c) (expand a) ≡ alternative_met constraint_holds lines c a
    unfolding expand alternative_met
    expand-met c h a b =
        any-map (alternative_met atom_holds lines c) (λ (ks : List ℕ). record { names = a.names; asks = atoms_for a.asks ks }) (choices a.asks)
        ∙ place-any (λ ks d. all (atom_holds d) (atoms_for a.asks ks)) (choices a.asks) a.names 1 c
        ∙ place_on _ _ (λ d l. choices_are d l a.asks) a.names b 1 c h

    -- and a rule just where the rule is that it becomes
    pub translate-met : (r : Rule Constraint) → RuleBelow m r → (t : Token) → Proper t → met atom_holds lines (translate r) t ≡ met constraint_holds lines r t
    unfolding translate met
    translate-met r b t h =
        any_flat (alternative_met atom_holds lines (triggered (plan_end lines) t)) expand r.alternatives
        ∙ any_on (λ (a : Alternative Constraint). All (NameBelow m) a.names) _ _
        (λ a l. expand-met (triggered (plan_end lines) t) (trigger_choice (plan_end lines) t h) a l)
        r.alternatives
        b.names

-- ---- the answer from 12 on

-- a rule and the rule that it becomes have the same trigger tokens
examined-same : (lines : ℕ → List Token) (rules : List (Rule Constraint)) → examined lines (map translate rules) ≡ examined lines rules
unfolding examined is_trigger trigger_line translate
examined-same lines [] = refl
examined-same lines (r ∷ rules) = rw (examined-same lines rules)

module _ (lines : ℕ → List Token) (m : ℕ) (proper : (v : ℕ) → v < m → All Proper (lines v)) where
  trigger_proper : (r : Rule Constraint) → RuleBelow m r → All Proper (trigger_line lines r)
  unfolding trigger_line
  trigger_proper r b = by (untriggered r) refl
    where
      by : (t : Bool) → untriggered r ≡ t → All Proper (cond t (nobody ∷ []) (lines r.variable))
      by true e = (lit< tt, tt)
      by false e = proper r.variable (b.trigger e)

  -- the first trigger token that is not met has the same number
  first-unmet : (r : Rule Constraint) → RuleBelow m r → first_unmet atom_holds lines (translate r) ≡ first_unmet constraint_holds lines r
  unfolding first_unmet unmet is_trigger trigger_line translate
  first-unmet r b =
      first_on Proper (unmet atom_holds lines (translate r)) (unmet constraint_holds lines r)
      (λ t l. ap (λ (x : Bool). is_trigger lines r t && not x) (translate-met lines m proper r b t l))
      (trigger_line lines r) (trigger_proper r b)

  rule_unmet_lem : (r : Rule Constraint) → RuleBelow m r → rule_unmet atom_holds lines (translate r) ≡ rule_unmet constraint_holds lines r
  unfolding rule_unmet trigger_line translate
  rule_unmet_lem r b = ap (λ (n : ℕ). ltb n (length (trigger_line lines r))) (first-unmet r b)

  -- THE THEOREM: the rules of the book get the answer of the sheet's
  pub translate_rules : 0 < m → (rules : List (Rule Constraint)) → All (RuleBelow m) rules
      → rules_fault atom_holds lines (map translate rules) ≡ rules_fault constraint_holds lines rules
  unfolding rules_fault
  translate_rules some rules b =
      let k : ℕ = first (rule_unmet constraint_holds lines) rules in
      let at : get_or (map translate rules) k no_rule ≡ translate (get_or rules k no_rule) = unfold translate flat_map in get_or-map translate rules k no_rule in
      let none : RuleBelow m no_rule = record { trigger = λ e. some; names = tt } in
      rw (
        length-map,
        first-map (rule_unmet atom_holds lines) translate rules,
        first_on (RuleBelow m) (λ r. rule_unmet atom_holds lines (translate r)) (rule_unmet constraint_holds lines) rule_unmet_lem rules b,
        examined-same lines rules,
        at,
        first-unmet (get_or rules k no_rule) (all_get (RuleBelow m) no_rule none rules k b),
      )
