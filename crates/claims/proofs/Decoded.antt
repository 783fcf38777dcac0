-- What the tables 2 to 5 of a good book or sheet say record by record, said of its decoded rules, and back. Assumes nothing.
use mathlib.Core.Path.{refl}
use mathlib.Core.Bool.{Bool}
use mathlib.Core.Logic.{◌↔◌}
use mathlib.Core.List.{List}
use Prim.Native.Nat.{ℕ, ◌+◌, ◌*◌, ◌≤◌, ◌<◌}
use native.Mathlib.Nat.{add-zero}
use Rattle.words.specs.Lists.{All}
use Rattle.words.specs.Words.{word}
use Rattle.words.proofs.Runs.{length_run}
use Rattle.layout.specs.Layout.{fifth_width, fifth_most, count, offset, record_at, field, owner}
use Rattle.records.specs.Wrong.{has_trigger}
use Rattle.book.specs.Rules.{Fifth, name_at, constraint_at, alternative_at, rule_at, rules_of}
use Rattle.book.specs.Encode.{constraints}
use Rattle.book.specs.Sound.{NameSound, Sound}
use Rattle.book.proofs.Inside.{Ranges, alternative_ranges, name_ranges, ask_ranges, owned}
use Rattle.claims.proofs.Laws.{run-all, run-records}
use Rattle.claims.specs.Decoded.{TriggerFine, NameFine, AlternativeFine, RuleFine, RecordsFine, ConstraintFine}

module _ {C : Type 0} (t5 : Fifth C) (Ask : ℕ → Bool → C → Type 0) (e : ℕ) (b : List ℕ) where
  -- record a of table 3, in a rule with a trigger or not
  record AlternativeRecord (trigger : Bool) (a : ℕ) : Type 0 where
    few_names : field e b 3 a 1 ≤ 4
    few_asks : field e b 3 a 3 ≤ fifth_most e
    names : (k : ℕ) → k < field e b 3 a 1 → NameSound e b (field e b 3 a 0 + k)
    asks : (k : ℕ) → k < field e b 3 a 3 → Ask (field e b 3 a 1) trigger (t5.read b (offset b 5 + (field e b 3 a 2 + k) * t5.width))

  alternative_fine : (trigger : Bool) (a : ℕ) → AlternativeFine Ask e b trigger (alternative_at t5 b (record_at e b 3 a)) ↔ AlternativeRecord trigger a
  unfolding alternative_at name_at
  alternative_fine trigger a =
      let ns = run-records (NameFine e b) (name_at b) 2 (field e b 3 a 1) (offset b 4) (word b (record_at e b 3 a)) in
      let qs = run-records (Ask (field e b 3 a 1) trigger) (t5.read b) t5.width (field e b 3 a 3) (offset b 5) (field e b 3 a 2) in (
        λ h.
            record {
              few_names = rw length_run at h.few_names;
              few_asks = rw length_run at h.few_asks;
              names = λ k l. simp add-zero (ns.0 h.names k l);
              asks = qs.0 (rw length_run at h.asks);
            },
        λ h.
            record {
              few_names = rw length_run h.few_names;
              few_asks = rw length_run h.few_asks;
              names = ns.1 (λ k l. simp add-zero at (h.names k l));
              asks = rw length_run (qs.1 h.asks);
            },
      )

  -- record r of table 2
  record RuleRecord (r : ℕ) : Type 0 where
    trigger : TriggerFine e b (field e b 2 r 0) (field e b 2 r 1)
    some : 1 ≤ field e b 2 r 3
    few : field e b 2 r 3 ≤ 64
    alternatives : (k : ℕ) → k < field e b 2 r 3 → AlternativeRecord (has_trigger e b r) (field e b 2 r 2 + k)

  rule_fine : (r : ℕ) → RuleFine Ask e b (rule_at t5 b (record_at e b 2 r)) ↔ RuleRecord r
  unfolding rule_at
  rule_fine r =
      let qs = run-records (AlternativeFine Ask e b (has_trigger e b r)) (alternative_at t5 b) 4 (field e b 2 r 3) (offset b 3) (field e b 2 r 2) in (
        λ h.
            record {
              trigger = simp add-zero h.trigger;
              some = rw length_run at h.some;
              few = rw length_run at h.few;
              alternatives = λ k l. (alternative_fine _ _).0 (qs.0 (simp add-zero h.alternatives) k l);
            },
        λ h.
            record {
              trigger = simp add-zero at h.trigger;
              some = rw length_run h.some;
              few = rw length_run h.few;
              alternatives = simp add-zero at (qs.1 (λ k l. (alternative_fine _ _).1 (h.alternatives k l)));
            },
      )

  -- THE LAW: the decoded rules are as they must be just where the records are
  pub rules_fine : Ranges e b 2 2 3 → Ranges e b 3 0 4 → Ranges e b 3 2 5 → All (RuleFine Ask e b) (rules_of t5 b) ↔ RecordsFine t5 Ask e b
  unfolding rules_of
  rules_fine alts names asks =
      let rs = run-all (RuleFine Ask e b) (rule_at t5 b) 4 (count b 2) (offset b 2) in
      let oa = owned alts (λ r a. AlternativeRecord (has_trigger e b r) a) in
      let on = owned names (λ a i. NameSound e b i) in
      let oq = owned asks (λ a i. Ask (field e b 3 a 1) (has_trigger e b (owner e b 2 2 a)) (t5.read b (offset b 5 + i * t5.width))) in (
        λ h.
            let r : (i : ℕ) → i < count b 2 → RuleRecord i = λ i l. (rule_fine i).0 (rs.0 h i l) in
            let a = oa.1 (λ i l. (r i l).alternatives) in
            record {
              trigger = λ i l. (r i l).trigger;
              some = λ i l. (r i l).some;
              few = λ i l. (r i l).few;
              few_names = λ i l. (a i l).few_names;
              few_asks = λ i l. (a i l).few_asks;
              names = on.1 (λ i l. (a i l).names);
              asks = oq.1 (λ i l. (a i l).asks);
            },
        λ h.
            let n = on.0 h.names in
            let q = oq.0 h.asks in
            let a = oa.0 (λ i l. record { few_names = h.few_names i l; few_asks = h.few_asks i l; names = n i l; asks = q i l }) in
            rs.1 (λ i l. (rule_fine i).1 (record { trigger = h.trigger i l; some = h.some i l; few = h.few i l; alternatives = a i l })),
      )

-- the rules of a sound sheet are as they must be
pub sheet_rules : {s : List ℕ} → Sound 2 s → All (RuleFine ConstraintFine 2 s) (rules_of constraints s)
unfolding constraint_at fifth_width
sheet_rules {s} h =
    (rules_fine constraints ConstraintFine 2 s (alternative_ranges h) (name_ranges h) (ask_ranges h)).1
    (record {
      trigger = λ i l. (h.rules i l).trigger;
      some = λ i l. (h.rules i l).alternatives.some;
      few = λ i l. (h.rules i l).alternatives.few;
      few_names = λ i l. (h.alternatives i l).names.few;
      few_asks = λ i l. (h.alternatives i l).asks.few;
      names = h.names;
      asks = λ i l. let q = h.constraints refl i l in record { left = q.left; right = q.right; some = q.some; set = q.set };
    })
