-- Two plans whose lines have the same values and jobs, token by token, and whose endpoints stand in the same order: the rules of a book of the
-- profile come to the same in both, from 12 on. `Same s s'` says that s in the one and s' in the other are the same endpoint. Assumes nothing.
use mathlib.Core.Path.{◌≡◌, refl, sym, ◌∙◌, subst}
use mathlib.Core.Bool.{Bool, true, false, ◌&&◌, not, cond, false≢true}
use mathlib.Core.List.{List, [], ◌∷◌}
use Prim.Native.Nat.{ℕ, zero, suc, ◌+◌, ◌≤◌, ◌<◌}
use native.Mathlib.Nat.{add-zero}
use native.Mathlib.Omega.{arith}
use lib.Dec.{ltb, eqb}
use lib.ListN.{length, get_or}
use borrow.Author.Tests.{eqb-true, eqb-false, ne_eqb}
use Rattle.words.specs.Lists.{all, All}
use Rattle.words.proofs.Lists.{all_get, any_on}
use Rattle.words.specs.Least.{first}
use Rattle.book.specs.Rules.{Name, Atom, Alternative, Rule}
use Rattle.book.specs.Sound.{TermSound}
use Rattle.lines.specs.declared.Token.{Token}
use Rattle.lines.specs.Ends.{plan_end}
use Rattle.choice.specs.Met.{Choice, nobody, choice_size, triggered, put, token_time, token_job, time_of, bounds_hold, atom_holds, place, alternative_met, met}
use Rattle.choice.proofs.Laws.{put_first, put_second, put_third, put_else, put-job, put-long}
use Rattle.choice.proofs.Exists.{and_both}
use Rattle.verdict.specs.Judged.{no_rule, untriggered, counted, trigger_line, is_trigger, examined, unmet, first_unmet, rule_unmet, rules_fault}
use Rattle.claims.specs.Expansion.{NameBelow}
use Rattle.claims.proofs.Laws.{first_on}
use Rattle.order.specs.Profile.{timeless, order_bounds, order_atom}
use Rattle.order_claims.specs.Pairs.{Pairs}
use Rattle.order_claims.proofs.Pairs.{pairs_length, pairs_to, pairs_any, pairs_first, pairs_counted}
use Rattle.order_claims.proofs.Bounds.{bounds_alike, timeless_kinds}
use Rattle.order_claims.specs.Alike.{AtomOrder, AlternativeOrder, RuleOrder}

module _ (Same : ℕ → ℕ → Type 0) (order : (s s' t t' : ℕ) → Same s s' → Same t t' → ltb s t ≡ ltb s' t') where
  -- a token of one plan and that of the other: the same value and job, and the same endpoints
  pub record TokenAlike (t t' : Token) : Type 0 where
    pub value : t.value ≡ t'.value
    pub start : Same t.start.tick t'.start.tick
    pub end : Same t.end.tick t'.end.tick
    pub job : t.job ≡ t'.job

  -- ---- choices: the tokens before number k are alike; the trigger's counts where there is one

  record ChoiceAlike (trigger : Bool) (k : ℕ) (c d : Choice) : Type 0 where
    times : (kind x : ℕ) → kind < 2 → x < k → (x ≡ 0 → trigger ≡ true) → Same (token_time c kind x) (token_time d kind x)
    jobs : (x : ℕ) → x < k → (x ≡ 0 → trigger ≡ true) → token_job c x ≡ token_job d x
    left : choice_size ≤ length c
    right : choice_size ≤ length d

  -- one token more
  module _ (trigger : Bool) (k : ℕ) (c d : Choice) (t t' : Token) (few : k ≤ 4) (h : ChoiceAlike trigger k c d) (a : TokenAlike t t') where
    abbrev after : Choice
    after = put c k t.start.tick t.end.tick t.job

    abbrev after' : Choice
    after' = put d k t'.start.tick t'.end.tick t'.job

    put-here : (kind : ℕ) → kind < 2 → Same (token_time after kind k) (token_time after' kind k)
    put-here zero m = rw (put_first c k _ _ _ (omega (arith, h.left)), put_first d k _ _ _ (omega (arith, h.right))) a.start
    put-here (suc zero) m = rw (put_second c k _ _ _ (omega (arith, h.left)), put_second d k _ _ _ (omega (arith, h.right))) a.end
    put-here (suc (suc n)) m = absurd (omega arith)

    put_time : (kind x : ℕ) → kind < 2 → x < k + 1 → (x ≡ 0 → trigger ≡ true) → (q : Bool) → eqb x k ≡ q
        → Same (token_time after kind x) (token_time after' kind x)
    put_time kind x m b f true e = rw (eqb-true x k e) (put-here kind m)
    put_time kind x m b f false e =
        let other : x ≡ k → ⊥ = eqb-false x k e in
        let left = put_else c k t.start.tick t.end.tick t.job kind x m other in
        let right = put_else d k t'.start.tick t'.end.tick t'.job kind x m other in
        rw (left, right) (h.times kind x m (omega arith) f)

    job-put : (x : ℕ) → x < k + 1 → (x ≡ 0 → trigger ≡ true) → (q : Bool) → eqb x k ≡ q → token_job after x ≡ token_job after' x
    job-put x b f true e =
        rw (eqb-true x k e) (put_third c k _ _ _ (omega (arith, h.left)) ∙ a.job ∙ sym (put_third d k _ _ _ (omega (arith, h.right))))
    job-put x b f false e =
        let other : x ≡ k → ⊥ = eqb-false x k e in
        put-job c k t.start.tick t.end.tick t.job x other ∙ h.jobs x (omega arith) f
        ∙ sym (put-job d k t'.start.tick t'.end.tick t'.job x other)

    put_alike : ChoiceAlike trigger (k + 1) after after'
    put_alike =
        record {
          times = λ kind x m b f. put_time kind x m b f (eqb x k) refl;
          jobs = λ x b f. job-put x b f (eqb x k) refl;
          left = rw (put-long c k t.start.tick t.end.tick t.job) h.left;
          right = rw (put-long d k t'.start.tick t'.end.tick t'.job) h.right;
        }

  -- an atom of the profile holds for both or for neither
  time_alike : (n : ℕ) (trigger : Bool) (kind x : ℕ) (c d : Choice) → ChoiceAlike trigger (n + 1) c d → TermSound n trigger kind x
      → timeless kind ≡ true → (kind ≡ 4 → ⊥) → Same (time_of c kind x) (time_of d kind x)
  unfolding time_of
  time_alike n trigger kind x c d h s o f =
      let q = timeless_kinds kind o in
      let low : kind < 2 = omega (arith, s.kinds, q.0, q.1, f) in
      let token = s.token low in
      rw (ne_eqb kind 2 q.0, ne_eqb kind 3 q.1) (h.times kind x low (omega (arith, token.named)) token.triggered)

  atom_alike : (n : ℕ) (trigger : Bool) (a : Atom) (c d : Choice) → ChoiceAlike trigger (n + 1) c d → AtomOrder n trigger a
      → atom_holds c a ≡ atom_holds d a
  unfolding atom_holds bounds_hold order_atom
  atom_alike n trigger a c d h o = by (eqb a.left_kind 4) refl
    where
      by : (b : Bool) → eqb a.left_kind 4 ≡ b
          → cond b (eqb (token_job c a.left) (token_job c a.right)) (bounds_hold c a)
          ≡ cond b (eqb (token_job d a.left) (token_job d a.right)) (bounds_hold d a)
      by true e =
          let l = o.fine.left.job (eqb-true _ _ e) in
          let r = o.fine.right.job (o.fine.jobs.both (eqb-true _ _ e)) in
          rw (h.jobs a.left (omega (arith, l.named)) l.triggered, h.jobs a.right (omega (arith, r.named)) r.triggered)
      by false e =
          let no-job = eqb-false a.left_kind 4 e in
          let q = and_both (timeless a.left_kind && timeless a.right_kind) (order_bounds a.lower a.upper) o.order in
          let k = and_both (timeless a.left_kind) (timeless a.right_kind) q.0 in
          let l = time_alike n trigger a.left_kind a.left c d h o.fine.left k.0 no-job in
          let r = time_alike n trigger a.right_kind a.right c d h o.fine.right k.1 (λ z. no-job (o.fine.jobs.back z)) in
          bounds_alike a.lower a.upper _ _ _ _ q.1 (order _ _ _ _ l r) (order _ _ _ _ r l)

  atoms_alike : (n : ℕ) (trigger : Bool) (c d : Choice) → ChoiceAlike trigger (n + 1) c d → (asks : List Atom) → All (AtomOrder n trigger) asks
      → all (atom_holds c) asks ≡ all (atom_holds d) asks
  unfolding all
  atoms_alike n trigger c d h [] o = refl
  atoms_alike n trigger c d h (a ∷ asks) o = rw (atom_alike n trigger a c d h o.0, atoms_alike n trigger c d h asks o.1)

  module _ (lines lines' : ℕ → List Token) (m : ℕ) (alike : (v : ℕ) → v < m → Pairs TokenAlike (lines v) (lines' v)) where
    -- tokens can be chosen for the names in both or in neither
    place_alike : (trigger : Bool) (p q : Choice → Bool) (n : ℕ) → n ≤ 5 → ((c d : Choice) → ChoiceAlike trigger n c d → p c ≡ q d)
        → (ns : List Name) → All (NameBelow m) ns → (k : ℕ) → k + length ns ≡ n → (c d : Choice) → ChoiceAlike trigger k c d
        → place lines p ns k c ≡ place lines' q ns k d
    unfolding place
    place_alike trigger p q n l agree [] b k e c d h = agree c d (subst (λ (i : ℕ). ChoiceAlike trigger i c d) (sym (add-zero k) ∙ e) h)
    place_alike trigger p q n l agree (x ∷ ns) b k e c d h =
        pairs_any TokenAlike _ _
        (λ t t' a.
        rw (a.value, place_alike trigger p q n l agree ns b.1 (k + 1) (omega arith) _ _ (put_alike trigger k c d t t' (omega arith) h a)))
        (lines x.variable) (lines' x.variable) (alike x.variable b.0)

    alternative_alike : (trigger : Bool) (a : Alternative Atom) → AlternativeOrder m trigger a → (c d : Choice) → ChoiceAlike trigger 1 c d
        → alternative_met atom_holds lines c a ≡ alternative_met atom_holds lines' d a
    unfolding alternative_met
    alternative_alike trigger a o c d h =
        let n : ℕ = length a.names in
        place_alike trigger (λ c. all (atom_holds c) a.asks) (λ d. all (atom_holds d) a.asks) (n + 1) (omega (arith, o.few))
        (λ c d g. atoms_alike n trigger c d g a.asks o.asks)
        a.names o.names 1 (omega arith) c d h

    -- ---- a rule: its trigger tokens, in both plans

    -- two trigger tokens: the same value, and choices of them alone that are alike
    record TriggerAlike (trigger : Bool) (t t' : Token) : Type 0 where
      value : t.value ≡ t'.value
      choice : ChoiceAlike trigger 1 (triggered (plan_end lines) t) (triggered (plan_end lines') t')

    trigger_alike : (t t' : Token) → TokenAlike t t' → TriggerAlike true t t'
    unfolding token_time token_job
    trigger_alike t t' a = record { value = a.value; choice = record { times = times; jobs = jobs; left = omega arith; right = omega arith } }
      where
        times : (kind x : ℕ) → kind < 2 → x < 1 → (x ≡ 0 → true ≡ true)
            → Same (token_time (triggered (plan_end lines) t) kind x) (token_time (triggered (plan_end lines') t') kind x)
        times zero zero k l f = a.start
        times (suc zero) zero k l f = a.end
        times (suc (suc n)) zero k l f = absurd (omega arith)
        times zero (suc x) k l f = absurd (omega arith)
        times (suc n) (suc x) k l f = absurd (omega arith)

        jobs : (x : ℕ) → x < 1 → (x ≡ 0 → true ≡ true) → token_job (triggered (plan_end lines) t) x ≡ token_job (triggered (plan_end lines') t') x
        jobs zero l f = a.job
        jobs (suc x) l f = absurd (omega arith)

    nobody_alike : TriggerAlike false nobody nobody
    nobody_alike =
        record {
          value = refl;
          choice =
              record {
                times = λ kind x k l f. absurd (false≢true (f (omega arith)));
                jobs = λ x l f. absurd (false≢true (f (omega arith)));
                left = omega arith;
                right = omega arith;
              };
        }

    module _ (r : Rule Atom) (o : RuleOrder m r) where
      line_alike : Pairs (TriggerAlike (not (untriggered r))) (trigger_line lines r) (trigger_line lines' r)
      unfolding trigger_line
      line_alike = by (untriggered r) refl
        where
          by : (t : Bool) → untriggered r ≡ t
              → Pairs (TriggerAlike (not t)) (cond t (nobody ∷ []) (lines r.variable)) (cond t (nobody ∷ []) (lines' r.variable))
          by true e = (nobody_alike, tt)
          by false e =
              pairs_to TokenAlike (TriggerAlike true) trigger_alike (lines r.variable) (lines' r.variable) (alike r.variable (o.trigger e))

      is_alike : (t t' : Token) → TriggerAlike (not (untriggered r)) t t' → is_trigger lines r t ≡ is_trigger lines' r t'
      unfolding is_trigger
      is_alike t t' a = rw a.value

      unmet_alike : (t t' : Token) → TriggerAlike (not (untriggered r)) t t' → unmet atom_holds lines r t ≡ unmet atom_holds lines' r t'
      unfolding unmet met
      unmet_alike t t' a =
          rw (
            is_alike t t' a,
            any_on (AlternativeOrder m (not (untriggered r))) (alternative_met atom_holds lines (triggered (plan_end lines) t))
                (alternative_met atom_holds lines' (triggered (plan_end lines') t'))
                (λ x g. alternative_alike (not (untriggered r)) x g (triggered (plan_end lines) t) (triggered (plan_end lines') t') a.choice)
                r.alternatives o.alternatives,
          )

      first_alike : first_unmet atom_holds lines r ≡ first_unmet atom_holds lines' r
      unfolding first_unmet
      first_alike =
          pairs_first (TriggerAlike (not (untriggered r))) (unmet atom_holds lines r) (unmet atom_holds lines' r) unmet_alike (trigger_line lines r)
          (trigger_line lines' r) line_alike

      rule_alike : rule_unmet atom_holds lines r ≡ rule_unmet atom_holds lines' r
      unfolding rule_unmet
      rule_alike = rw (first_alike, pairs_length (TriggerAlike (not (untriggered r))) (trigger_line lines r) (trigger_line lines' r) line_alike)

      counted_alike : counted (is_trigger lines r) (trigger_line lines r) ≡ counted (is_trigger lines' r) (trigger_line lines' r)
      counted_alike =
          pairs_counted (TriggerAlike (not (untriggered r))) (is_trigger lines r) (is_trigger lines' r) is_alike (trigger_line lines r)
          (trigger_line lines' r) line_alike

    examined_alike : (rules : List (Rule Atom)) → All (RuleOrder m) rules → examined lines rules ≡ examined lines' rules
    unfolding examined
    examined_alike [] o = refl
    examined_alike (r ∷ rules) o = rw (counted_alike r o.0, examined_alike rules o.1)

    -- THE LAW: all rules come to the same
    pub rules_alike : 0 < m → (rules : List (Rule Atom)) → All (RuleOrder m) rules
        → rules_fault atom_holds lines rules ≡ rules_fault atom_holds lines' rules
    unfolding rules_fault
    rules_alike some rules o =
        let k : ℕ = first (rule_unmet atom_holds lines') rules in
        let none : RuleOrder m no_rule = record { trigger = λ e. some; alternatives = tt } in
        rw (
          first_on (RuleOrder m) (rule_unmet atom_holds lines) (rule_unmet atom_holds lines') rule_alike rules o,
          examined_alike rules o,
          first_alike (get_or rules k no_rule) (all_get (RuleOrder m) no_rule none rules k o),
        )
