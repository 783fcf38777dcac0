-- A rule is unmet for the judge just where the plan doesn't satisfy it, as 000, Definition 2.11 says, and the trigger token that the judge names
-- is the first one that isn't met. For a book, whose rules ask atoms, and for a sheet, whose rules ask constraints. Assumes nothing.
use mathlib.Core.Path.{◌≡◌, refl, ap, ◌∙◌, subst}
use mathlib.Core.Bool.{Bool, true, false, ◌||◌, not, cond}
use mathlib.Core.Logic.{◌↔◌}
use mathlib.Core.List.{List, [], ◌∷◌}
use Prim.Native.Nat.{ℕ, zero, suc, ◌<◌}
use native.Mathlib.Omega.{arith}
use lib.Dec.{eqb}
use lib.ListN.{length, get_or}
use borrow.Author.Tests.{eqb-true, eqb-false, eq-eqb, not-true}
use Rattle.words.specs.Lists.{All}
use Rattle.words.proofs.Least.{first-least}
use Rattle.clock.specs.Clock.{no_limit}
use Rattle.book.specs.Rules.{Atom, Constraint, Rule, rules_of, variables_of, atom_at}
use Rattle.book.specs.Encode.{atoms, constraints}
use Rattle.layout.specs.Layout.{fifth_width}
use Rattle.book.specs.Sound.{Sound}
use Rattle.book.proofs.Inside.{alternative_ranges, name_ranges, ask_ranges}
use Rattle.lines.specs.declared.Token.{Token}
use Rattle.choice.specs.Met.{Choice, nobody, atom_holds, constraint_holds, met}
use Rattle.verdict.specs.Judged.{untriggered, trigger_line, is_trigger, unmet, first_unmet, rule_unmet}
use Rattle.claims.specs.Papers.{token_of, Plan, SatisfiedIn, On, Met, Satisfies}
use Rattle.claims.specs.Sheets.{Holds, SheetSatisfies}
use Rattle.claims.proofs.Laws.{all-to}
use Rattle.claims.specs.Decoded.{RuleFine, ConstraintFine}
use Rattle.claims.proofs.Decoded.{rules_fine, sheet_rules}
use Rattle.claims.specs.TranslatedRules.{AtomFine}
use Rattle.claims.specs.Wrongs.{First, None}
use Rattle.claims.proofs.WrongTests.{unless, none_is, first-is}
use Rattle.claims.proofs.Matched.{and_so, met_iff}
use Rattle.claims.proofs.SheetsMet.{trigger_proper, sheet_met_iff}
use Rattle.claims.specs.RulesMet.{Fails, Settles, triggered, triggerless}

-- ---- what is claimed

module _ {C : Type 0} (lines : ℕ → List Token) (rule : Rule C) (Met : Token → Type 0) where
  -- "for any token τ0 ∈ π(x0), if val(τ0) = v0 then" it is met; without a trigger once, for nobody. Met says when a trigger token is met
  record Every : Type 0 where
    triggered : (rule.variable ≡ no_limit → ⊥) → (t : Token) → On (lines rule.variable) t → t.value ≡ rule.value → Met t
    triggerless : rule.variable ≡ no_limit → Met nobody

-- ---- with a trigger or without

module _ {C : Type 0} (lines : ℕ → List Token) (r : Rule C) (M : Token → Type 0) where
  -- x says that the rule has no trigger: the tokens among which its trigger tokens are, that number i is one, and is met
  abbrev line_by : Bool → List Token
  line_by x = cond x (nobody ∷ []) (lines r.variable)

  abbrev TriggerBy : Bool → ℕ → Type 0
  TriggerBy x i = (x || eqb (get_or (line_by x) i nobody).value r.value) ≡ true

  abbrev MetBy : Bool → ℕ → Type 0
  MetBy x i = M (get_or (line_by x) i nobody)

  every_to : (x : Bool) → untriggered r ≡ x → ((i : ℕ) → i < length (line_by x) → TriggerBy x i → MetBy x i) → Every lines r M
  every_to true e h = record { triggered = λ n. absurd (n (eqb-true _ _ e)); triggerless = λ q. h 0 (omega arith) refl }
  every_to false e h =
      record {
        triggered = λ n t o v. subst M o.is (h o.number o.below (eq-eqb _ _ (ap (λ (x : Token). x.value) o.is ∙ v)));
        triggerless = λ q. absurd (eqb-false _ _ e q);
      }

  every_from : (x : Bool) → untriggered r ≡ x → Every lines r M → (i : ℕ) → i < length (line_by x) → TriggerBy x i → MetBy x i
  every_from true e s zero l h = s.triggerless (eqb-true _ _ e)
  every_from true e s (suc i) l h = absurd (omega arith)
  every_from false e s i l h = s.triggered (eqb-false _ _ e) _ (record { number = i; below = l; is = refl }) (eqb-true _ _ h)

  fails_to : (x : Bool) → untriggered r ≡ x → (c : ℕ) → c < length (line_by x) → TriggerBy x c × (MetBy x c → ⊥)
      → ((i : ℕ) → i < c → TriggerBy x i → MetBy x i) → Fails lines r M c
  fails_to true e zero l u h = triggerless (eqb-true _ _ e) u.1
  fails_to true e (suc c) l u h = absurd (omega arith)
  fails_to false e c l u h = triggered c (eqb-false _ _ e) l (eqb-true _ _ u.0) u.1 (λ i k v. h i k (eq-eqb _ _ v))

  fails_from : (x : Bool) → untriggered r ≡ x → (c : ℕ) → Fails lines r M c
      → (c < length (line_by x)) × (TriggerBy x c × (MetBy x c → ⊥)) × ((i : ℕ) → i < c → TriggerBy x i → MetBy x i)
  fails_from true e _ (triggered c n l v m h) = absurd (n (eqb-true _ _ e))
  fails_from true e _ (triggerless q m) = (omega arith, (refl, m), λ i l. absurd (omega arith))
  fails_from false e _ (triggered c n l v m h) = (l, (eq-eqb _ _ v, m), λ i k t. h i k (eqb-true _ _ t))
  fails_from false e _ (triggerless q m) = absurd (eqb-false _ _ e q)

-- ---- the judge's test, where its search says when a trigger token is met

module _ {C : Type 0} (holds : Choice → C → Bool) (lines : ℕ → List Token) (r : Rule C) (M : Token → Type 0)
    (iff : (i : ℕ) → (met holds lines r (token_of (trigger_line lines r) i) ≡ true) ↔ M (token_of (trigger_line lines r) i)) where
  -- the tokens among which the trigger tokens are
  abbrev line : List Token
  line = trigger_line lines r

  -- number i is a trigger token, and is not met
  abbrev Unmet : ℕ → Type 0
  Unmet i = (is_trigger lines r (get_or line i nobody) ≡ true) × (M (get_or line i nobody) → ⊥)

  unmet_iff : (i : ℕ) → (unmet holds lines r (get_or line i nobody) ≡ true) ↔ Unmet i
  unfolding unmet
  unmet_iff i =
      let t : Token = get_or line i nobody in
      let a = and_so (is_trigger lines r t) (not (met holds lines r t)) in
      let u = unless (met holds lines r t) (M t) (iff i) in (
        λ h. let q = a.0 h in (q.0, u.0 (not-true _ q.1)),
        λ h. a.1 (h.0, ap not (u.1 h.1)),
      )

  -- not so: if it is a trigger token, it is met
  met_unless : (i : ℕ) → (Unmet i → ⊥) ↔ (is_trigger lines r (get_or line i nobody) ≡ true → M (get_or line i nobody))
  met_unless i = (λ n h. by (met holds lines r (get_or line i nobody)) refl n h, λ f u. u.1 (f u.0))
    where
      by : (x : Bool) → met holds lines r (get_or line i nobody) ≡ x → (Unmet i → ⊥) → is_trigger lines r (get_or line i nobody) ≡ true → M (get_or line i nobody)
      by true e n h = (iff i).0 e
      by false e n h = absurd (n (h, (unless _ _ (iff i)).0 e))

  -- none is unmet, or which is the first
  none-unmet : (rule_unmet holds lines r ≡ false) ↔ None (length line) Unmet
  unfolding rule_unmet first_unmet
  none-unmet = rw (first-least (unmet holds lines r) nobody line) (none_is (length line) (λ i. unmet holds lines r (get_or line i nobody)) Unmet unmet_iff)

  first-unmet : (c : ℕ) → ((rule_unmet holds lines r ≡ true) × (first_unmet holds lines r ≡ c)) ↔ First (length line) Unmet c
  unfolding rule_unmet first_unmet
  first-unmet c = rw (first-least (unmet holds lines r) nobody line) (first-is (length line) (λ i. unmet holds lines r (get_or line i nobody)) Unmet unmet_iff c)

  -- THE LAW: the rule is not unmet exactly if every trigger token is met, and unmet first at trigger token c exactly if it fails there
  settles : Settles holds lines r (Every lines r M) (Fails lines r M)
  unfolding trigger_line is_trigger
  settles =
      record {
        satisfied = (
          λ h. every_to lines r M (untriggered r) refl (λ i l. (met_unless i).0 (none-unmet.0 h i l)),
          λ s. none-unmet.1 (λ i l. (met_unless i).1 (every_from lines r M (untriggered r) refl s i l)),
        );
        fails = λ c. (
          λ h.
              let f = (first-unmet c).0 h in
              fails_to lines r M (untriggered r) refl c f.below f.here (λ i l. (met_unless i).0 (f.before i l)),
          λ h.
              let q = fails_from lines r M (untriggered r) refl c h in
              (first-unmet c).1 (record { below = q.0; here = q.1; before = λ i l. (met_unless i).1 (q.2 i l) }),
        );
      }

-- ---- a book and a sheet

-- the rules of a sound book are as they must be
pub book_rules : {b : List ℕ} → Sound 1 b → All (RuleFine AtomFine 1 b) (rules_of atoms b)
unfolding atom_at fifth_width
book_rules {b} h =
    (rules_fine atoms AtomFine 1 b (alternative_ranges h) (name_ranges h) (ask_ranges h)).1
    (record {
      trigger = λ i l. (h.rules i l).trigger;
      some = λ i l. (h.rules i l).alternatives.some;
      few = λ i l. (h.rules i l).alternatives.few;
      few_names = λ i l. (h.alternatives i l).names.few;
      few_asks = λ i l. (h.alternatives i l).asks.few;
      names = h.names;
      asks = λ i l. let q = h.atoms (λ z. omega arith) i l in record { left = q.left; right = q.right; bounds = q.bounds; jobs = q.jobs };
    })

-- whatever alternatives ask, in the papers' words
settles_by : {C : Type 0} (holds : Choice → C → Bool) (Holds : List Token → C → Type 0) (lines : ℕ → List Token) (r : Rule C)
    → ((i : ℕ) → (met holds lines r (token_of (trigger_line lines r) i) ≡ true) ↔ Met Holds lines r (token_of (trigger_line lines r) i))
    → Settles holds lines r (Satisfies Holds lines r) (Fails lines r (Met Holds lines r))
settles_by holds Holds lines r iff =
    let j = settles holds lines r (Met Holds lines r) iff in
    record {
      satisfied = (
        λ h. let e = j.satisfied.0 h in record { triggered = e.triggered; triggerless = e.triggerless },
        λ h. j.satisfied.1 (record { triggered = h.triggered; triggerless = h.triggerless }),
      );
      fails = j.fails;
    }

-- so the judge settles for each whether the plan satisfies it, by 000, Definition 2.11
pub book_settles : {b : List ℕ} (lines : ℕ → List Token) → Sound 1 b → Plan (variables_of b) lines
    → All (λ (r : Rule Atom). Settles atom_holds lines r (Satisfies (SatisfiedIn lines) lines r) (Fails lines r (Met (SatisfiedIn lines) lines r))) (rules_of atoms b)
book_settles {b} lines s plan =
    all-to (RuleFine AtomFine 1 b) _ (λ r f. settles_by atom_holds (SatisfiedIn lines) lines r (λ i. met_iff lines b r f _)) (rules_of atoms b) (book_rules s)

-- and the direct judge for each rule of a sheet
pub sheet_settles : {s : List ℕ} (lines : ℕ → List Token) → Sound 2 s → Plan (variables_of s) lines
    → All (λ (r : Rule Constraint). Settles constraint_holds lines r (SheetSatisfies lines r) (Fails lines r (Met Holds lines r))) (rules_of constraints s)
sheet_settles {s} lines h plan =
    all-to (RuleFine ConstraintFine 2 s) _
    (λ r f. settles_by constraint_holds Holds lines r (λ i. sheet_met_iff s lines plan r f _ (trigger_proper s lines plan r f.trigger i)))
    (rules_of constraints s) (sheet_rules h)
