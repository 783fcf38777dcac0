-- "A narrowed set loses no relation that some plan's tokens meeting that alternative could stand in", and a set that is empty means that no
-- plan meets the alternative. Shown by the table that says how the tokens stand, and no more: it is below the first table, and composition
-- cuts nothing of it. Assumes nothing.
use mathlib.Core.Path.{◌≡◌, refl, sym, ap, ◌∙◌}
use mathlib.Core.Bool.{Bool, true, false, cond, false≢true}
use mathlib.Core.Logic.{⊎_elim}
use mathlib.Core.List.{List, [], ◌∷◌}
use Prim.Native.Nat.{ℕ, zero, suc, ◌+◌, ◌-◌, ◌*◌, ◌≤◌, ◌<◌}
use native.Mathlib.Decide.{dec_le}
use native.Mathlib.Omega.{arith}
use lib.Dec.{lit<}
use lib.ListN.{length, get_or, get_or-eq_default}
use borrow.Author.Tests.{eqb-false}
use Rattle.words.specs.Words.{word, in_set}
use Rattle.words.specs.Lists.{All}
use Rattle.words.specs.Runs.{run}
use Rattle.words.proofs.Runs.{length_run, run_at}
use Rattle.layout.specs.Layout.{count, record_at, field, offset}
use Rattle.book.specs.Rules.{Constraint, name_at, constraint_at, alternative_at, rule_at}
use Rattle.book.specs.Sound.{Sound}
use Rattle.book.proofs.Inside.{first_word, in_range, alternative_ranges, owner_owns}
use Rattle.lines.specs.declared.Token.{Token}
use Rattle.lines.specs.Lines.{line_of}
use Rattle.lines.specs.Ends.{plan_end}
use Rattle.plan.specs.Fault.{plan_fault}
use Rattle.choice.specs.Met.{nobody, triggered, constraint_holds, alternative_met}
use Rattle.choice.specs.Exists.{Among, Meets, no_name, choice_of}
use Rattle.choice.proofs.Exists.{choice_time, alternative_iff}
use Rattle.verdict.specs.Judged.{untriggered, trigger_line, is_trigger}
use Rattle.narrowing.specs.First.{filled}
use Rattle.narrowing.specs.Passes.{Seated}
use Rattle.narrowing.specs.Sheet.{rule_of, first_token, alternative_of, words_for, constraints_of, first_table, narrowing, table_after}
use Rattle.narrowing.proofs.Tables.{length-filled}
use Rattle.narrowing.proofs.Stand.{first_holds, all_hold_lem, no_loss}
use Rattle.narrowing.proofs.Sheets.{all_seated, sheet_sound, answered, table-narrowed}
use Rattle.composition.proofs.Sets.{in_none}
use Rattle.claims.specs.Expansion.{Proper}
use Rattle.claims.proofs.SamePlan.{lines_proper}
use Rattle.claims.proofs.Matched.{all-at, at-any}
use Rattle.narrowing_claims.specs.Kept.{alternative_in, rule_in, Meeting, set_of, token_in, relation_of_tokens}

-- ---- the tokens have a length

nobody_proper : Proper nobody
nobody_proper = lit< tt

among_proper : {line : List Token} {t : Token} → All Proper line → Among t line → Proper t
among_proper {line} {t} h m = ap_proper m.here ((all-at Proper t line).0 h m.index m.within)
  where
    ap_proper : {x y : Token} → x ≡ y → Proper x → Proper y
    ap_proper e h = rw (← e) h

module _ {s : List ℕ} (h : Sound 2 s) (p : List ℕ) (f : (plan_fault s p).number ≡ 0) (a : ℕ) (l : a < count s 3) where
  -- the rule of an alternative is in the sheet
  rule_below : rule_of s a < count s 2
  unfolding rule_of
  rule_below = (owner_owns (alternative_ranges h) a l).there

  trigger_proper : (t : Token) → Among t (trigger_line (line_of p) (rule_in s a)) → Proper t
  unfolding trigger_line rule_at
  trigger_proper t m = by (untriggered (rule_in s a)) refl m
    where
      by : (b : Bool) → untriggered (rule_in s a) ≡ b → Among t (cond b (nobody ∷ []) (line_of p (rule_in s a).variable)) → Proper t
      by true e m = among_proper (nobody_proper, tt) m
      by false e m =
          let q = (h.rules (rule_of s a) rule_below).trigger in
          among_proper (lines_proper h p f _ (⊎_elim (λ z. absurd (eqb-false _ _ e (sym (first_word 2 s 2 (rule_of s a)) ∙ z.0))) (λ z. rw (← first_word 2 s 2 (rule_of s a)) z.variable) q)) m

  -- each name is of a variable of the sheet
  variable_below : (k : ℕ) → k < field 2 s 3 a 1 → (get_or (alternative_in s a).names k no_name).variable < count s 0
  unfolding alternative_at name_at
  variable_below k b =
      let w = (h.names (field 2 s 3 a 0 + k) (in_range (h.alternatives a l).names k b)).variable in
      let first = first_word 2 s 3 a in
      let place : offset s 4 + (field 2 s 3 a 0 + k) * 2 + 0 ≡ offset s 4 + 2 * word s (record_at 2 s 3 a) + k * 2 = omega arith in
      rw (run_at (name_at s) 2 (field 2 s 3 a 1) (offset s 4 + 2 * word s (record_at 2 s 3 a)) k no_name b) (rw place at w)

  name_proper : (t : Token) (ts : List Token) → Meets constraint_holds (line_of p) t (alternative_in s a) ts → (k : ℕ) → Proper (get_or ts k nobody)
  unfolding alternative_at
  name_proper t ts m k =
      let size : length (alternative_in s a).names ≡ field 2 s 3 a 1 = length_run (name_at s) 2 (field 2 s 3 a 1) (offset s 4 + 2 * word s (record_at 2 s 3 a)) in
      let each = m.each in
      elim (dec_le (length ts) k) [
        | yes q ↦ rw (get_or-eq_default ts nobody q) nobody_proper
        | no q ↦ among_proper (lines_proper h p f _ (variable_below k (omega arith))) (m.serve k (omega arith)).variable
      ]

  -- every token of those that meet the alternative has a length
  tokens_proper : (t : Token) (ts : List Token) → Among t (trigger_line (line_of p) (rule_in s a)) → Meets constraint_holds (line_of p) t (alternative_in s a) ts
      → (k : ℕ) → Proper (get_or (t ∷ ts) k nobody)
  tokens_proper t ts o m zero = trigger_proper t o
  tokens_proper t ts o m (suc k) = name_proper t ts m k

-- ---- they stand in relations of the first table

abbrev no_constraint : Constraint
no_constraint = record { left = 0; right = 0; set = 0 }

module _ {s : List ℕ} (h : Sound 2 s) (a : ℕ) (l : a < count s 3) (last : ℕ) (t : Token) (ts : List Token) (few : length ts ≤ 4) where
  -- a constraint that holds has the relation of its two tokens, counted as the table counts them
  held_stands : (q : Constraint) → Seated (alternative_of s a).tokens (first_token s a) q.left → Seated (alternative_of s a).tokens (first_token s a) q.right
      → constraint_holds (choice_of last t ts) q ≡ true
      → in_set q.set (relation_of_tokens (token_in s a t ts (q.left - first_token s a)) (token_in s a t ts (q.right - first_token s a))) ≡ true
  unfolding constraint_holds
  held_stands q x y e =
      let left : q.left - first_token s a + first_token s a ≡ q.left = omega (arith, x.from) in
      let right : q.right - first_token s a + first_token s a ≡ q.right = omega (arith, y.from) in
      let c = choice_time last t ts in
      rw (left, right) (rw ((c q.left few).0, (c q.left few).1, (c q.right few).0, (c q.right few).1) at e)

  abbrev Fits : Constraint → Type 0
  Fits q =
      Seated (alternative_of s a).tokens (first_token s a) q.left
      × Seated (alternative_of s a).tokens (first_token s a) q.right
      × (in_set q.set (relation_of_tokens (token_in s a t ts (q.left - first_token s a)) (token_in s a t ts (q.right - first_token s a))) ≡ true)

  -- all of them
  all_fit : ((q : Constraint) → Among q (constraints_of s (alternative_of s a)) → constraint_holds (choice_of last t ts) q ≡ true)
      → All Fits (constraints_of s (alternative_of s a))
  unfolding constraints_of constraint_at
  all_fit hold = (all-at Fits no_constraint qs).1 each
    where
      n : ℕ
      n = field 2 s 3 a 3

      place : ℕ
      place = offset s 5 + 3 * field 2 s 3 a 2

      qs : List Constraint
      qs = run (constraint_at s) 3 n place

      each : (i : ℕ) → i < length qs → Fits (get_or qs i no_constraint)
      each i k =
          let b : i < n = rw (length_run (constraint_at s) 3 n place) at k in
          let is = run_at (constraint_at s) 3 n place i no_constraint b in
          let seats = all_seated h a l i b in
          let x : Seated (alternative_of s a).tokens (first_token s a) (get_or qs i no_constraint).left = rw is seats.0 in
          let y : Seated (alternative_of s a).tokens (first_token s a) (get_or qs i no_constraint).right = rw is seats.1 in
          (x, y, held_stands (get_or qs i no_constraint) x y (hold _ (record { index = i; within = k; here = at-any qs i _ no_constraint k })))

-- ---- THE CLAIMS

-- "A narrowed set loses no relation that some plan's tokens meeting that alternative could stand in"
pub no_relation_lost : (s : List ℕ) (a : ℕ) (m : List ℕ) → (narrowing s a (length m)).number ≡ 0
    → (p : List ℕ) (t : Token) (ts : List Token) → Meeting s a p t ts → (i j : ℕ) → i < (alternative_of s a).tokens → j < (alternative_of s a).tokens
    → in_set (set_of (alternative_of s a).tokens (table_after s a m) i j) (relation_of_tokens (token_in s a t ts i) (token_in s a t ts j)) ≡ true
unfolding first_table words_for alternative_at constraints_of
no_relation_lost s a m z p t ts w i j hi hj =
    let r = answered s a (length m) z in
    let h = sheet_sound s r.sheet in
    let n = (alternative_of s a).tokens in
    let size : length (alternative_in s a).names ≡ field 2 s 3 a 1 = length_run (name_at s) 2 (field 2 s 3 a 1) (offset s 4 + 2 * word s (record_at 2 s 3 a)) in
    let few : length ts ≤ 4 = omega (arith, w.meets.each, size, (h.alternatives a r.below).names.few) in
    let start : ℕ → ℕ = λ k. (token_in s a t ts k).start.tick in
    let end : ℕ → ℕ = λ k. (token_in s a t ts k).end.tick in
    let long : (k : ℕ) → k < n → start k < end k = λ k b. tokens_proper h p w.plan a r.below t ts w.on w.meets (k + first_token s a) in
    let filled_long : n * n ≤ length (filled n (n * n) m) = omega (arith, length-filled n (n * n) m, r.enough) in
    no_loss n start end long _ _ (table-narrowed s a m z).cut
    (all_hold_lem n start end long (first_token s a) (constraints_of s (alternative_of s a)) (filled n (n * n) m) filled_long
    (all_fit h a r.below (plan_end (line_of p)) t ts few w.meets.hold)
    (first_holds n start end long m r.enough))
    i j hi hj

-- so a set that is empty means that no plan meets the alternative: not for any trigger token
pub none_meets : (s : List ℕ) (a : ℕ) (m : List ℕ) → (narrowing s a (length m)).number ≡ 0 → (i j : ℕ) → i < (alternative_of s a).tokens → j < (alternative_of s a).tokens
    → set_of (alternative_of s a).tokens (table_after s a m) i j ≡ 0
    → (p : List ℕ) → (plan_fault s p).number ≡ 0 → (t : Token) → Among t (trigger_line (line_of p) (rule_in s a)) → is_trigger (line_of p) (rule_in s a) t ≡ true
    → alternative_met constraint_holds (line_of p) (triggered (plan_end (line_of p)) t) (alternative_in s a) ≡ false
none_meets s a m z i j hi hj e p f t o v = by (alternative_met constraint_holds (line_of p) (triggered (plan_end (line_of p)) t) (alternative_in s a)) refl
  where
    by : (b : Bool) → alternative_met constraint_holds (line_of p) (triggered (plan_end (line_of p)) t) (alternative_in s a) ≡ b → b ≡ false
    by false q = refl
    by true q =
        let w = (alternative_iff constraint_holds (line_of p) t (alternative_in s a)).0 q in
        let r = relation_of_tokens (token_in s a t w.0 i) (token_in s a t w.0 j) in
        let there = no_relation_lost s a m z p t w.0 (record { plan = f; on = o; trigger = v; meets = w.1 }) i j hi hj in
        absurd (false≢true (sym (in_none r) ∙ ap (λ (x : ℕ). in_set x r) (sym e) ∙ there))
