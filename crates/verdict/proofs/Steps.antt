-- One step of the judge's two loops, over trigger tokens and over rules, in the words of the code: what the whole comes to is what is
-- passed and what the rest comes to. Assumes nothing.
use mathlib.Core.Path.{◌≡◌, refl, sym, ap, ◌∙◌}
use mathlib.Core.Bool.{Bool, true, false, ◌&&◌, not}
use mathlib.Core.List.{List, [], ◌∷◌}
use Prim.Native.Nat.{ℕ, zero, suc, ◌+◌, ◌-◌, ◌*◌, ◌^◌, ◌≤◌, ◌<◌}
use native.Mathlib.Numerals.{sub-one}
use native.Mathlib.Nat.{add-zero, sub-zero}
use native.Mathlib.Omega.{arith}
use lib.Dec.{eqb}
use borrow.Author.Tests.{eq-eqb, ne_eqb}
use Rattle.words.specs.Words.{word}
use Rattle.words.specs.Runs.{run}
use Rattle.clock.specs.Clock.{no_limit}
use Rattle.answers.specs.Numbers.{numbers}
use Rattle.layout.specs.Layout.{count, offset}
use Rattle.book.specs.Rules.{rule_at, rules_of}
use Rattle.lines.specs.declared.Token.{Token}
use Rattle.lines.specs.Lines.{token as plan-token, token_width, job_at, line_place, line_count, tokens_from, line_of}
use Rattle.lines.proofs.Width.{width_few}
use Rattle.choice.specs.Met.{nobody, met}
use Rattle.choice.specs.Asked.{ask_holds, met_at}
use Rattle.verdict.specs.Judged.{no_rule, counted, trigger_line, is_trigger, examined, unmet, first_unmet, rule_unmet, rules_fault}
use Rattle.verdict.proofs.Passed.{Passed, passed_none, passed-step, passed_bad, passed-all}
use Rattle.verdict.specs.Survey.{placed_rule, placed_rules, placed_fault, AllMet, OneUnmet}

-- ---- what is left of a line, and of the rules

-- the next token, d long, and those after it
tokens_step : (p : List ℕ) (n place start d : ℕ) → 0 < n → d ≡ word p (place + 1)
    → tokens_from p n place start ≡ plan-token (word p place) start (start + d) (job_at p place) ∷ tokens_from p (n - 1) (place + token_width p) (start + d)
unfolding tokens_from
tokens_step p zero place start d h e = absurd (omega arith)
tokens_step p (suc n) place start d h e = rw e (simp sub-one)

-- no more
tokens_none : (p : List ℕ) (n place start : ℕ) → n ≡ 0 → tokens_from p n place start ≡ []
unfolding tokens_from
tokens_none p n place start h = rw h

-- the next record, and those after it
run_step : {A : Type 0} (f : ℕ → A) (w n at : ℕ) → 0 < n → run f w n at ≡ f at ∷ run f w (n - 1) (at + w)
unfolding run
run_step f w zero at h = absurd (omega arith)
run_step f w (suc n) at h = simp sub-one

-- ---- the trigger tokens of the rule at a place

-- a rule is met as its alternatives are, which the search names by their place
met_at_lem : (e : ℕ) (b p : List ℕ) (place : ℕ) (t : Token)
    → met (ask_holds e b) (line_of p) (placed_rule e b place) t ≡ met_at e b p t (word b (place + 3)) (offset b 3 + 4 * word b (place + 2))
unfolding met rule_at met_at
met_at_lem e b p place t = refl

-- the rule at a place: the test of its trigger tokens, and that of those it isn't met for
abbrev triggers : ℕ → List ℕ → List ℕ → ℕ → Token → Bool
triggers e b p place = is_trigger (line_of p) (placed_rule e b place)

abbrev failing : ℕ → List ℕ → List ℕ → ℕ → Token → Bool
failing e b p place = unmet (ask_holds e b) (line_of p) (placed_rule e b place)

-- value, first alternative and number of alternatives of the rule at a place
pub record RuleWords (b : List ℕ) (place v f m : ℕ) : Type 0 where
  pub triggered : word b place ≡ no_limit → ⊥
  pub value : v ≡ word b (place + 1)
  pub first : f ≡ word b (place + 2)
  pub number : m ≡ word b (place + 3)

-- `token` of the n tokens of the rule's line are passed; the next stands at `at` and begins at `start`, and no sum wraps
pub record OnLine (e : ℕ) (b p : List ℕ) (place n at start token seen : ℕ) : Type 0 where
  pub within : token ≤ n
  pub few : seen ≤ token
  pub near : at + 3 * (n - token) < 2 ^ 60
  pub early : start + 4294967296 * (n - token) < 2 ^ 64
  pub passed :
      Passed (failing e b p place) (counted (triggers e b p place)) (trigger_line (line_of p) (placed_rule e b place))
      (tokens_from p (n - token) at start) token seen

-- none is passed; `at` is where the line's tokens stand
pub line-start : (e : ℕ) (b p : List ℕ) (place line n at : ℕ) → (word b place ≡ no_limit → ⊥) → line ≡ word b place → n ≡ line_count p line
    → at ≡ line_place p line → n < 2 ^ 32 → at < 2 ^ 36 → OnLine e b p place n at 0 0 0
unfolding trigger_line rule_at line_of
line-start e b p place line n at some hl hn hat ln lat =
    record {
      within = omega arith;
      few = omega arith;
      near = omega arith;
      early = omega arith;
      passed = rw (ne_eqb (word b place) no_limit some, hn, hat, hl, sub-zero) (passed_none _);
    }

module _ (e : ℕ) (b p : List ℕ) {place v f m : ℕ} (r : RuleWords b place v f m) (t : Token) where
  -- a rule's trigger tokens are those with its value
  triggers-is : triggers e b p place t ≡ eqb t.value v
  unfolding is_trigger rule_at
  triggers-is = rw (r.value, ne_eqb (word b place) no_limit r.triggered)

  -- and it isn't met for those that the search finds nothing for
  failing-is : failing e b p place t ≡ (eqb t.value v && not (met_at e b p t m (offset b 3 + 4 * f)))
  unfolding unmet
  failing-is = rw (triggers-is, met_at_lem e b p place t, r.first, r.number)

module _ {e : ℕ} {b p : List ℕ} {place n at start token seen v f m : ℕ} (h : OnLine e b p place n at start token seen)
    (r : RuleWords b place v f m) (d w k : ℕ) (more : token < n) (hd : d ≡ word p (at + 1)) (hw : w ≡ word p at) (hk : k ≡ token_width p) where
  -- the next token, and those after it
  abbrev next : Token
  next = plan-token w start (start + d) (job_at p at)

  abbrev later : List Token
  later = tokens_from p (n - (token + 1)) (at + k) (start + d)

  -- they are what is left
  ahead :
      Passed (failing e b p place) (counted (triggers e b p place)) (trigger_line (line_of p) (placed_rule e b place)) (next ∷ later) token seen
  ahead =
      let left : n - token - 1 ≡ n - (token + 1) = omega arith in
      let some : 0 < n - token = omega arith in
      rw hk (rw (tokens_step p (n - token) at start d some hd, ← hw, left) at h.passed)

  -- it is passed
  step : (i : ℕ) → i ≤ 1 → d < 2 ^ 32 → failing e b p place next ≡ false
      → counted (triggers e b p place) (next ∷ later) ≡ i + counted (triggers e b p place) later
      → OnLine e b p place n (at + k) (start + d) (token + 1) (seen + i)
  step i one low fine e =
      record {
        within = omega arith;
        few = omega (arith, h.few);
        near = omega (arith, h.near, hk, (width_few p).1);
        early = omega (arith, h.early);
        passed = passed-step next i ahead fine e;
      }

  -- it is none of the trigger tokens
  pub line_other : d < 2 ^ 32 → (w ≡ v → ⊥) → OnLine e b p place n (at + k) (start + d) (token + 1) seen
  unfolding counted
  line_other low other =
      let none = ne_eqb w v other in
      rw add-zero at (step 0 (omega arith) low (failing-is e b p r next ∙ rw none) (rw (triggers-is e b p r next, none)))

  -- it is one, and the rule is met for it
  pub line-met : (t : Token) (y : Bool) → d < 2 ^ 32 → w ≡ v → t ≡ plan-token (word p at) start (start + d) (job_at p at)
      → y ≡ met_at e b p t m (offset b 3 + 4 * f) → not y ≡ false → OnLine e b p place n (at + k) (start + d) (token + 1) (seen + 1)
  unfolding counted
  line-met t y low same ht hy met =
      let one = eq-eqb w v same in
      let is : next ≡ t = ap (λ (z : ℕ). plan-token z start (start + d) (job_at p at)) hw ∙ sym ht in
      step 1 (omega arith) low (failing-is e b p r next ∙ rw (one, is, ← hy, met)) (rw (triggers-is e b p r next, one))

  -- it is one, and the rule isn't
  pub line-unmet : (t : Token) (y : Bool) → w ≡ v → t ≡ plan-token (word p at) start (start + d) (job_at p at)
      → y ≡ met_at e b p t m (offset b 3 + 4 * f) → not y ≡ true → OneUnmet e b p place token
  unfolding rule_unmet first_unmet
  line-unmet t y same ht hy missed =
      let is : next ≡ t = ap (λ (z : ℕ). plan-token z start (start + d) (job_at p at)) hw ∙ sym ht in
      let bad = passed_bad next ahead (failing-is e b p r next ∙ rw (eq-eqb w v same, is, ← hy, missed)) in
      record { unmet = bad.0; token = bad.1 }

-- all are passed
pub line-end : {e : ℕ} {b p : List ℕ} {place n at start token seen : ℕ} → OnLine e b p place n at start token seen → n ≤ token
    → AllMet e b p place seen
unfolding rule_unmet first_unmet counted
line-end {p = p} {n = n} {at = at} {start = start} {token = token} h over =
    let none : n - token ≡ 0 = omega arith in
    let all = passed-all (rw (tokens_none p (n - token) at start none) at h.passed) refl in
    record { unmet = all.0; count = all.1 }

-- ---- a rule without trigger

module _ (e : ℕ) (b p : List ℕ) (place : ℕ) (none : word b place ≡ no_limit) where
  -- its line is one that nobody is
  bare_line :
      Passed (failing e b p place) (counted (triggers e b p place)) (trigger_line (line_of p) (placed_rule e b place)) (nobody ∷ []) 0 0
  unfolding trigger_line rule_at
  bare_line = rw none (passed_none _)

  -- who counts
  bare_one : triggers e b p place nobody ≡ true
  unfolding is_trigger rule_at
  bare_one = rw none

  -- the search tells whether it is met, which is all that there is to tell
  module _ (f m : ℕ) (t : Token) (hf : f ≡ word b (place + 2)) (hm : m ≡ word b (place + 3)) (ht : t ≡ nobody) where
    bare_is : (y : Bool) → y ≡ met_at e b p t m (offset b 3 + 4 * f) → failing e b p place nobody ≡ not y
    unfolding unmet
    bare_is y hy = rw (bare_one, met_at_lem e b p place nobody, ← hf, ← hm, ← ht, ← hy)

    pub bare-met : (y : Bool) → y ≡ met_at e b p t m (offset b 3 + 4 * f) → y ≡ true → AllMet e b p place 1
    unfolding rule_unmet first_unmet counted
    bare-met y hy met =
        let all = passed-all (passed-step nobody 1 bare_line (bare_is y hy ∙ ap not met) (rw bare_one)) refl in
        record { unmet = all.0; count = all.1 }

    pub bare-unmet : (y : Bool) → y ≡ met_at e b p t m (offset b 3 + 4 * f) → y ≡ false → OneUnmet e b p place 0
    unfolding rule_unmet first_unmet
    bare-unmet y hy missed =
        let bad = passed_bad nobody bare_line (bare_is y hy ∙ ap not missed) in
        record { unmet = bad.0; token = bad.1 }

-- ---- rules

-- `rule` of the n rules are passed, each met; they stand from o on
pub record OnRules (e : ℕ) (b p : List ℕ) (n o rule seen : ℕ) : Type 0 where
  pub passed :
      Passed (rule_unmet (ask_holds e b) (line_of p)) (examined (line_of p)) (placed_rules e b) (run (placed_rule e b) 4 (n - rule) (o + 4 * rule)) rule seen

-- none is passed
pub rules_start : (e : ℕ) (b p : List ℕ) (n o : ℕ) → n ≡ count b 2 → o ≡ offset b 2 → OnRules e b p n o 0 0
unfolding rules_of
rules_start e b p n o hn ho =
    let first : o + 4 * 0 ≡ o = omega arith in
    record { passed = rw (first, hn, ho, sub-zero) (passed_none _) }

module _ {e : ℕ} {b p : List ℕ} {n o rule seen : ℕ} (h : OnRules e b p n o rule seen) (more : rule < n) where
  -- the rule at the place is the next, and then come those after it
  rules_ahead :
      Passed (rule_unmet (ask_holds e b) (line_of p)) (examined (line_of p)) (placed_rules e b)
      (placed_rule e b (o + 4 * rule) ∷ run (placed_rule e b) 4 (n - (rule + 1)) (o + 4 * (rule + 1))) rule seen
  rules_ahead =
      let left : n - rule - 1 ≡ n - (rule + 1) = omega arith in
      let next : o + 4 * rule + 4 ≡ o + 4 * (rule + 1) = omega arith in
      let some : 0 < n - rule = omega arith in
      rw (run_step (placed_rule e b) 4 (n - rule) (o + 4 * rule) some, left, next) at h.passed

  module _ (c : ℕ) (s : AllMet e b p (o + 4 * rule) c) where
    -- what it comes to
    rules_more :
        examined (line_of p) (placed_rule e b (o + 4 * rule) ∷ run (placed_rule e b) 4 (n - (rule + 1)) (o + 4 * (rule + 1)))
        ≡ c + examined (line_of p) (run (placed_rule e b) 4 (n - (rule + 1)) (o + 4 * (rule + 1)))
    unfolding examined
    rules_more = rw s.count

    -- it is met
    pub rules_met : OnRules e b p n o (rule + 1) (seen + c)
    rules_met = record { passed = passed-step (placed_rule e b (o + 4 * rule)) c rules_ahead s.unmet rules_more }

    -- and the count goes on to fit
    pub rules_fit : examined (line_of p) (placed_rules e b) < 2 ^ 32 → seen + c < 2 ^ 32
    rules_fit few = omega (arith, rules_ahead.sum, rules_more)

  -- it isn't
  pub rules_unmet : (token : ℕ) → OneUnmet e b p (o + 4 * rule) token → numbers 12 rule token ≡ placed_fault e b p
  unfolding placed_fault rules_fault
  rules_unmet token s =
      let bad = passed_bad (placed_rule e b (o + 4 * rule)) rules_ahead s.unmet in
      rw (bad.0, ← bad.1, bad.2 no_rule, s.token)

-- all are passed
pub rules_end : {e : ℕ} {b p : List ℕ} {n o rule seen : ℕ} → OnRules e b p n o rule seen → n ≤ rule → numbers 0 seen 0 ≡ placed_fault e b p
unfolding placed_fault rules_fault examined run
rules_end {e} {b} {p} {n} {o} {rule} h over =
    let none : n - rule ≡ 0 = omega arith in
    let all = passed-all (rw none at h.passed) refl in
    rw (all.0, all.1)
