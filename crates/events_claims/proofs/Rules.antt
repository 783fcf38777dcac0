-- 000, Lemma 4.6, of a book's rules: a clause holds for tokens exactly if its edges hold for the tokens' events. Assumes nothing.
use mathlib.Core.Path.{◌≡◌, refl, sym, ap, ◌∙◌}
use mathlib.Core.Bool.{Bool, not}
use mathlib.Core.Logic.{◌↔◌, ⊎_elim}
use mathlib.Core.List.{List, [], ◌∷◌}
use Prim.Native.Nat.{ℕ, zero, suc, ◌+◌, ◌-◌, ◌≤◌, ◌<◌}
use native.Mathlib.Decide.{dec_lt, ℕ_discrete}
use native.Mathlib.Omega.{arith}
use lib.Dec.{eqb}
use lib.ListN.{length, get_or}
use Rattle.words.specs.Lists.{All}
use Rattle.clock.specs.Clock.{no_limit}
use Rattle.layout.specs.Layout.{count}
use Rattle.book.specs.Fault.{book_fault}
use Rattle.book.specs.Rules.{Name, Atom, Alternative, Rule, rules_of}
use Rattle.book.specs.Encode.{atoms}
use Rattle.lines.specs.declared.Token.{Token}
use Rattle.lines.specs.Lines.{line_count, start_of, line_of}
use Rattle.lines.specs.Ends.{plan_end}
use Rattle.plan.specs.Fault.{plan_fault}
use Rattle.event_list.specs.Events.{Event, events_of}
use Rattle.event_list.specs.Plans.{plan_lines}
use Rattle.event_list.proofs.Back.{all-at}
use Rattle.event_list.proofs.Good.{Writes, writes}
use Rattle.events_claims.specs.Sequences.{time_at, Starts}
use Rattle.events_claims.proofs.Times.{times_rise}
use Rattle.events_claims.proofs.Tokens.{es, shaped, end-event}
use Rattle.events_claims.proofs.Closed.{over, event_soon}
use Rattle.events_claims.specs.Graphs as graph
use Rattle.events_claims.specs.Graphs.{Pair, pair_of, NodeTime, TimeEdge, JobEdge, EdgeHolds, MatchesAt}
use Rattle.events_claims.proofs.Lemma.{Agree, job_one, Suits, lemma}
use Rattle.claims.specs.Papers.{token_of, Evaluates, start, end, timestamp, end_of_plan, Bounded, SatisfiedIn, no_name, no_statement, Satisfies}
use Rattle.claims.specs.Decoded.{NameFine, AlternativeFine, RuleFine}
use Rattle.claims.specs.TranslatedRules.{AtomFine}
use Rattle.claims.proofs.RulesMet.{book_rules}
use Rattle.events_claims.specs.Rules.{Named, StatementNamed, RuleNamed}

no_time : (l : List Event) (i : ℕ) → length l ≡ 0 → time_at l i ≡ 0
unfolding time_at
no_time [] i h = refl
no_time (e ∷ l) i h = absurd (omega (arith, h))

module _ (b p : List ℕ) (w : Writes b p) where
  abbrev E : List Event
  E = es b p w

  -- a plan with an end has an event then
  last-event : 0 < plan_end (line_of p) → (0 < length E) × (plan_end (line_of p) ≤ time_at E (length E - 1))
  unfolding start_of
  last-event h =
      let some : 0 < count b 0 = w.book.header.some 0 (omega arith) in
      let ends = over b p w 0 some in
      at (line_count p 0) refl some (ends)
    where
      at : (n : ℕ) → line_count p 0 ≡ n → 0 < count b 0 → start_of p 0 (line_count p 0) ≡ plan_end (line_of p)
          → (0 < length E) × (plan_end (line_of p) ≤ time_at E (length E - 1))
      at zero e some ends = let z : start_of p 0 (line_count p 0) ≡ 0 = ap (start_of p 0) e in absurd (omega (arith, z, ends, h))
      at (suc m) e some ends =
          let q = end-event b p w 0 m some (omega (arith, e)) in
          let n : m + 1 ≡ line_count p 0 = omega (arith, e) in
          let t : time_at E q.index ≡ plan_end (line_of p) = q.time ∙ ap (start_of p 0) n ∙ ends in (
            omega (arith, q.below),
            elim (ℕ_discrete q.index (length E - 1)) [
              | yes i ↦ omega (arith, t, ap (time_at E) i)
              | no i ↦ let r = times_rise E (shaped b p w) q.index (length E - 1) (omega (arith, q.below)) (omega (arith, q.below)) in omega
                  (arith, t, r)
            ],
          )

  -- the last event is at the plan's end
  pub end_time_lem : time_at E (length E - 1) ≡ plan_end (line_of p)
  end_time_lem =
      elim (dec_lt 0 (plan_end (line_of p))) [
        | yes h ↦ let l = last-event h in let m = event_soon b p w (length E - 1) (omega (arith, l.0)) in omega (arith, l.1, m)
        | no h ↦ elim (dec_lt 0 (length E)) [
          | yes l ↦ let m = event_soon b p w (length E - 1) (omega arith) in omega (arith, m)
          | no l ↦ let z = no_time E (length E - 1) (omega arith) in omega (arith, z)
        ]
      ]

  module _ (names : List Name) (mapping : List Token) (γ : List Pair) (g : Agree b p w names mapping γ) where
    -- the time of a term is that of its node
    node : (k a t : ℕ) → Evaluates (plan_end (line_of p)) mapping k a t → (k < 2 → a < length names) → NodeTime E γ k a t
    node _ _ _ (start a) h = rw (g.fit a (h (omega arith))).starts (graph.start a)
    node _ _ _ (end a) h = rw (g.fit a (h (omega arith))).ends (graph.end a)
    node _ _ _ (timestamp t) h = graph.timestamp t
    node _ _ _ end_of_plan h = rw (← end_time_lem) graph.end_of_plan

    term : (k a t : ℕ) → NodeTime E γ k a t → (k < 2 → a < length names) → Evaluates (plan_end (line_of p)) mapping k a t
    term _ _ _ (graph.start a) h = rw (← (g.fit a (h (omega arith))).starts) (start a)
    term _ _ _ (graph.end a) h = rw (← (g.fit a (h (omega arith))).ends) (end a)
    term _ _ _ (graph.timestamp t) h = timestamp t
    term _ _ _ graph.end_of_plan h = rw end_time_lem end_of_plan

    -- an atom of times is satisfied exactly if its edge holds
    pub time_edge : (q : Atom) → Named (length names) q → Bounded (plan_end (line_of p)) mapping q ↔ TimeEdge E γ q
    time_edge q n = (
      λ s.
          record {
            left = s.left;
            right = s.right;
            is_left = node q.left_kind q.left s.left s.is_left n.left;
            is_right = node q.right_kind q.right s.right s.is_right n.right;
            lower = s.lower;
            upper = s.upper;
          },
      λ s.
          record {
            left = s.left;
            right = s.right;
            is_left = term q.left_kind q.left s.left s.is_left n.left;
            is_right = term q.right_kind q.right s.right s.is_right n.right;
            lower = s.lower;
            upper = s.upper;
          },
    )

    -- and one of jobs exactly if the tokens' jobs are equal
    pub job_edge : (q : Atom) → q.left < length names → q.right < length names
        → ((token_of mapping q.left).job ≡ (token_of mapping q.right).job) ↔ JobEdge E names γ q
    job_edge q l r = (
      λ e. record { job = (token_of mapping q.left).job; left = (g.fit q.left l).job; right = rw e (g.fit q.right r).job },
      λ h.
          sym (job_one b p w _ _ h.job (token_of mapping q.left) (pair_of γ q.left) (g.fit q.left l) h.left)
          ∙ job_one b p w _ _ h.job (token_of mapping q.right) (pair_of γ q.right) (g.fit q.right r) h.right,
    )

    -- so an atom is satisfied exactly if its edge holds
    pub atom_edge : (q : Atom) → Named (length names) q → SatisfiedIn (line_of p) mapping q ↔ EdgeHolds E names γ q
    atom_edge q n = (
      λ s.
          record {
            times = λ k. (time_edge q n).0 (s.bounds k);
            jobs = λ k. let l = n.jobs k in (job_edge q l.0 l.1).0 (s.jobs k);
          },
      λ s.
          record {
            bounds = λ k. (time_edge q n).1 (s.times k);
            jobs = λ k. let l = n.jobs k in (job_edge q l.0 l.1).1 (s.jobs k);
          },
    )

  -- ---- a rule's clauses

  clause : (names : List Name) (mapping : List Token) (γ : List Pair) → Agree b p w names mapping γ → (qs : List Atom) → All (Named (length names)) qs
      → All (SatisfiedIn (line_of p) mapping) qs ↔ All (EdgeHolds E names γ) qs
  clause names mapping γ g [] n = (λ h. tt, λ h. tt)
  clause names mapping γ g (q ∷ qs) n =
      let one = atom_edge names mapping γ g q n.0 in
      let rest = clause names mapping γ g qs n.1 in
      (λ h. (one.0 h.0, rest.0 h.1), λ h. (one.1 h.0, rest.1 h.1))

  suits : (rule : Rule Atom) → RuleNamed (count b 0) rule → Suits b p w (SatisfiedIn (line_of p)) rule
  suits rule n =
      record {
        trigger = n.trigger;
        variables = λ k l i h. all-at (λ (m : Name). m.variable < count b 0) no_name (get_or rule.alternatives k no_statement).names i
            (at k l).names h;
        clauses = λ k l mapping γ g.
            clause (record { variable = rule.variable; value = rule.value } ∷ (get_or rule.alternatives k no_statement).names) mapping γ g
            (get_or rule.alternatives k no_statement).asks (at k l).asks;
      }
    where
      at : (k : ℕ) → k < length rule.alternatives → StatementNamed (count b 0) (get_or rule.alternatives k no_statement)
      at k l = all-at (StatementNamed (count b 0)) no_statement rule.alternatives k n.statements l

  -- LEMMA 4.6, of one rule
  rule_lemma : (rule : Rule Atom) → RuleNamed (count b 0) rule → (rule.variable ≡ no_limit → ⊥)
      → Satisfies (SatisfiedIn (line_of p)) (line_of p) rule ↔ ((i : ℕ) → Starts E rule.variable rule.value i → MatchesAt E rule i)
  rule_lemma rule n trigger =
      let l = lemma b p w (SatisfiedIn (line_of p)) rule (suits rule n) in
      (λ s. l.0 (s.triggered trigger), λ m. record { triggered = λ k. l.1 m; triggerless = λ e. absurd (trigger e) })

-- ---- the rules of a sound book name what is there

atom_named : (n : ℕ) (some : Bool) (q : Atom) → AtomFine n some q → Named (suc n) q
atom_named n some q f =
    record {
      left = λ l. let t = (f.left.token l).named in omega (arith, t);
      right = λ l. let t = (f.right.token l).named in omega (arith, t);
      jobs = λ e.
          let l = (f.left.job e).named in
          let r = (f.right.job (f.jobs.both e)).named in
          (omega (arith, l), omega (arith, r));
    }

all_named : (P Q : Atom → Type 0) → ((q : Atom) → P q → Q q) → (qs : List Atom) → All P qs → All Q qs
all_named P Q h [] a = tt
all_named P Q h (q ∷ qs) a = (h q a.0, all_named P Q h qs a.1)

names_there : (b : List ℕ) (ns : List Name) → All (NameFine 1 b) ns → All (λ (n : Name). n.variable < count b 0) ns
names_there b [] h = tt
names_there b (n ∷ ns) h = (h.0.variable, names_there b ns h.1)

statements_named : (b : List ℕ) (some : Bool) (l : List (Alternative Atom)) → All (AlternativeFine AtomFine 1 b some) l
    → All (StatementNamed (count b 0)) l
statements_named b some [] h = tt
statements_named b some (a ∷ l) h = (
  record {
    names = names_there b a.names h.0.names;
    asks = all_named (AtomFine (length a.names) some) (Named (suc (length a.names))) (atom_named (length a.names) some) a.asks
        h.0.asks;
  },
  statements_named b some l h.1,
)

rule_named : (b : List ℕ) (r : Rule Atom) → RuleFine AtomFine 1 b r → (r.variable ≡ no_limit → ⊥) → RuleNamed (count b 0) r
rule_named b r f trigger =
    record {
      trigger = ⊎_elim (λ q. absurd (trigger q.0)) (λ q. q.variable) f.trigger;
      statements = statements_named b (not (eqb r.variable no_limit)) r.alternatives f.alternatives;
    }

-- 000, LEMMA 4.6, of every rule of a sound book that has a trigger, and every plan that passes 5 to 11 and 18: the plan satisfies the rule exactly
-- if at each of its events where a token of the trigger's variable and value starts the graph of some alternative matches
pub lemma_4_6 : (b p : List ℕ) → (book_fault 1 b).number ≡ 0 → (plan_fault b p).number ≡ 0
    → All (λ (r : Rule Atom). (r.variable ≡ no_limit → ⊥) → Satisfies (SatisfiedIn (line_of p)) (line_of p) r
    ↔ ((i : ℕ) → Starts (events_of (plan_lines p)) r.variable r.value i → MatchesAt (events_of (plan_lines p)) r i)) (rules_of atoms b)
lemma_4_6 b p sound passes =
    let w = writes b p sound passes in
    each w (rules_of atoms b) (book_rules w.book)
  where
    each : Writes b p → (rs : List (Rule Atom)) → All (RuleFine AtomFine 1 b) rs
        → All (λ (r : Rule Atom). (r.variable ≡ no_limit → ⊥) → Satisfies (SatisfiedIn (line_of p)) (line_of p) r
        ↔ ((i : ℕ) → Starts (events_of (plan_lines p)) r.variable r.value i → MatchesAt (events_of (plan_lines p)) r i)) rs
    each w [] h = tt
    each w (r ∷ rs) h = (λ trigger. rule_lemma b p w r (rule_named b r h.0 trigger) trigger, each w rs h.1)
