-- Laws of numbered rules: what they come to, and which rules are a desk's own, by their numbers. Over any rules. Assumes nothing.
use mathlib.Core.Path.{◌≡◌, refl, sym, ap, ◌∙◌}
use mathlib.Core.Bool.{Bool, true, false, cond, true≢false}
use mathlib.Core.Logic.{◌↔◌, inl, inr}
use mathlib.Core.List.{List, [], ◌∷◌}
use Prim.Native.Nat.{ℕ, zero, suc, ◌+◌, ◌≤◌, ◌<◌}
use native.Mathlib.Nat.{zero-add, add-zero}
use native.Mathlib.Decide.{ℕ_discrete}
use native.Mathlib.Omega.{arith}
use lib.Dec.{ltb}
use lib.ListN.{length, get_or}
use borrow.Author.Tests.{ltb-true, ltb-false, lt-ltb, le-ltb, eq-eqb, ne_eqb}
use Rattle.words.specs.Words.{word}
use Rattle.words.specs.Lists.{All}
use Rattle.words.specs.Least.{first}
use Rattle.answers.specs.Numbers.{numbers}
use Rattle.book.specs.Rules.{Rule}
use Rattle.lines.specs.declared.Token.{Token}
use Rattle.choice.specs.Met.{Choice}
use Rattle.verdict.specs.Judged.{no_rule, examined, first_unmet, rule_unmet, rules_fault}
use Rattle.claims.specs.Stages.{Own}
use Rattle.desks.specs.Own.{Numbered, numbered, of_desk, own_rules, triggers_of, fault_from, numbered_fault}
use Rattle.desks_claims.specs.Numbering.{rules_alone}

-- ---- what numbered rules come to

module _ {C : Type 0} (holds : Choice → C → Bool) (lines : ℕ → List Token) where
  -- 12 or no number
  pub from-own : (seen : ℕ) (xs : List (Numbered C)) → Own 12 13 (fault_from holds lines seen xs)
  unfolding fault_from
  from-own seen [] = inl refl
  from-own seen (x ∷ xs) = by (rule_unmet holds lines x.rule) (from-own (seen + triggers_of lines x.rule) xs)
    where
      by : (t : Bool) → Own 12 13 (fault_from holds lines (seen + triggers_of lines x.rule) xs)
          → Own 12 13
          (cond t (numbers 12 x.number (first_unmet holds lines x.rule)) (fault_from holds lines (seen + triggers_of lines x.rule) xs))
      by true h = inr (omega arith, omega arith)
      by false h = h

  -- no rule is unmet
  pub from-none : (seen : ℕ) (xs : List (Numbered C))
      → ((fault_from holds lines seen xs).number ≡ 0) ↔ All (λ (x : Numbered C). rule_unmet holds lines x.rule ≡ false) xs
  unfolding fault_from
  from-none seen [] = (λ h. tt, λ h. refl)
  from-none seen (x ∷ xs) = by (rule_unmet holds lines x.rule) (from-none (seen + triggers_of lines x.rule) xs)
    where
      by : {R : Type 0} (t : Bool) → ((fault_from holds lines (seen + triggers_of lines x.rule) xs).number ≡ 0) ↔ R
          → ((cond t (numbers 12 x.number (first_unmet holds lines x.rule)) (fault_from holds lines (seen + triggers_of lines x.rule) xs)).number ≡ 0)
          ↔ ((t ≡ false) × R)
      by true h = (λ e. absurd (omega arith), λ q. absurd (true≢false q.0))
      by false h = (λ e. (refl, h.0 e), λ q. h.1 q.1)

  -- and then they give the count
  pub from-count : (seen : ℕ) (xs : List (Numbered C)) → (fault_from holds lines seen xs).number ≡ 0
      → fault_from holds lines seen xs ≡ numbers 0 (seen + examined lines (rules_alone xs)) 0
  unfolding fault_from examined
  from-count seen [] = λ h. ap (λ (n : ℕ). numbers 0 n 0) (omega arith)
  from-count seen (x ∷ xs) = by (rule_unmet holds lines x.rule) (from-count (seen + triggers_of lines x.rule) xs)
    where
      by : (t : Bool)
          → ((fault_from holds lines (seen + triggers_of lines x.rule) xs).number ≡ 0
          → fault_from holds lines (seen + triggers_of lines x.rule) xs
          ≡ numbers 0 (seen + triggers_of lines x.rule + examined lines (rules_alone xs)) 0)
          → (cond t (numbers 12 x.number (first_unmet holds lines x.rule)) (fault_from holds lines (seen + triggers_of lines x.rule) xs)).number ≡ 0
          → cond t (numbers 12 x.number (first_unmet holds lines x.rule)) (fault_from holds lines (seen + triggers_of lines x.rule) xs)
          ≡ numbers 0 (seen + (triggers_of lines x.rule + examined lines (rules_alone xs))) 0
      by true h e = absurd (omega arith)
      by false h e = h e ∙ ap (λ (n : ℕ). numbers 0 n 0) (omega arith)

-- ---- all rules, numbered from 0

ltb-suc : (x y : ℕ) → ltb (suc x) (suc y) ≡ ltb x y
ltb-suc x y = by (ltb x y) refl
  where
    by : (t : Bool) → ltb x y ≡ t → ltb (suc x) (suc y) ≡ t
    by true e = lt-ltb (suc x) (suc y) (omega (arith, ltb-true x y e))
    by false e = le-ltb (suc x) (suc y) (omega (arith, ltb-false x y e))

module _ {C : Type 0} (holds : Choice → C → Bool) (lines : ℕ → List Token) where
  -- the first rule that isn't met
  abbrev first_one : List (Rule C) → ℕ
  first_one rules = first (rule_unmet holds lines) rules

  numbered-from : (seen from : ℕ) (rules : List (Rule C)) → fault_from holds lines seen (numbered from rules)
      ≡ cond (ltb (first_one rules) (length rules))
      (numbers 12 (from + first_one rules) (first_unmet holds lines (get_or rules (first_one rules) no_rule)))
      (numbers 0 (seen + examined lines rules) 0)
  unfolding fault_from numbered examined first
  numbered-from seen from [] = ap (λ (n : ℕ). numbers 0 n 0) (omega arith)
  numbered-from seen from (r ∷ rules) = by (rule_unmet holds lines r) (numbered-from (seen + triggers_of lines r) (suc from) rules)
    where
      by : (t : Bool) → fault_from holds lines (seen + triggers_of lines r) (numbered (suc from) rules)
          ≡ cond (ltb (first_one rules) (length rules))
          (numbers 12 (suc from + first_one rules) (first_unmet holds lines (get_or rules (first_one rules) no_rule)))
          (numbers 0 (seen + triggers_of lines r + examined lines rules) 0)
          → cond t (numbers 12 from (first_unmet holds lines r)) (fault_from holds lines (seen + triggers_of lines r) (numbered (suc from) rules))
          ≡ cond (ltb (cond t 0 (suc (first_one rules))) (suc (length rules)))
          (numbers 12 (from + cond t 0 (suc (first_one rules))) (first_unmet holds lines (get_or (r ∷ rules) (cond t 0 (suc (first_one rules))) no_rule)))
          (numbers 0 (seen + (triggers_of lines r + examined lines rules)) 0)
      by true h = rw (lt-ltb 0 (suc (length rules)) (omega arith), add-zero from)
      by false h =
          let number : suc from + first_one rules ≡ from + suc (first_one rules) = omega arith in
          let count : seen + triggers_of lines r + examined lines rules ≡ seen + (triggers_of lines r + examined lines rules) = omega arith in
          rw (h, ltb-suc (first_one rules) (length rules), number, count)

  -- THE LAW: the undivided judgement is that of all rules with their numbers
  pub rules_numbered : (rules : List (Rule C)) → rules_fault holds lines rules ≡ numbered_fault holds lines (numbered 0 rules)
  unfolding rules_fault numbered_fault
  rules_numbered rules = sym (rw (zero-add (first_one rules), zero-add (examined lines rules)) at (numbered-from 0 0 rules))

-- ---- a desk's own rules

-- the word of the next rule, and of one further on
pub here : (desks : List ℕ) (from : ℕ) → word desks (from + 0) ≡ word desks from
here desks from = ap (word desks) (add-zero from)

pub further : (desks : List ℕ) (from k : ℕ) → word desks (suc from + k) ≡ word desks (from + suc k)
further desks from k = ap (word desks) (omega arith)

module _ {C : Type 0} (desks : List ℕ) (desk : ℕ) where
  abbrev pub own_from : ℕ → List (Rule C) → List (Numbered C)
  own_from from rules = of_desk desks desk (numbered from rules)

  -- the first of them is the desk's, or not
  pub own-yes : (from : ℕ) (r : Rule C) (rules : List (Rule C)) → word desks from ≡ desk
      → own_from from (r ∷ rules) ≡ record { number = from; rule = r } ∷ own_from (suc from) rules
  unfolding of_desk numbered
  own-yes from r rules e = rw (eq-eqb (word desks from) desk e)

  pub own_no : (from : ℕ) (r : Rule C) (rules : List (Rule C)) → (word desks from ≡ desk → ⊥) → own_from from (r ∷ rules) ≡ own_from (suc from) rules
  unfolding of_desk numbered
  own_no from r rules e = rw (ne_eqb (word desks from) desk e)

  module _ (P : Rule C → Type 0) where
    -- what holds of each of them, by number
    own_each_from : (from : ℕ) (rules : List (Rule C))
        → All (λ (x : Numbered C). P x.rule) (own_from from rules)
        ↔ ((i : ℕ) → i < length rules → word desks (from + i) ≡ desk → P (get_or rules i no_rule))
    unfolding of_desk numbered
    own_each_from from [] = (λ h i l. absurd (omega arith), λ h. tt)
    own_each_from from (r ∷ rules) =
        let ih = own_each_from (suc from) rules in
        elim (ℕ_discrete (word desks from) desk) [
          | yes e ↦ rw (own-yes from r rules e) (
            λ h. elim [ zero ↦ λ l o. h.0 | suc i ↦ λ l o. ih.0 h.1 i (omega arith) (further desks from i ∙ o) ],
            λ h. (h 0 (omega arith) (here desks from ∙ e), ih.1 (λ i l o. h (suc i) (omega arith) (sym (further desks from i) ∙ o))),
          )
          | no n ↦ rw (own_no from r rules n) (
            λ h. elim [ zero ↦ λ l o. absurd (n (sym (here desks from) ∙ o)) | suc i ↦ λ l o. ih.0 h i (omega arith) (further desks from i ∙ o) ],
            λ h. ih.1 (λ i l o. h (suc i) (omega arith) (sym (further desks from i) ∙ o)),
          )
        ]

    pub own_each : (rules : List (Rule C))
        → All (λ (x : Numbered C). P x.rule) (own_rules desks desk rules)
        ↔ ((i : ℕ) → i < length rules → word desks i ≡ desk → P (get_or rules i no_rule))
    unfolding own_rules
    own_each rules =
        let h = own_each_from 0 rules in
        let at : (i : ℕ) → word desks (0 + i) ≡ word desks i = λ i. ap (word desks) (zero-add i) in
        (λ a i l o. h.0 a i l (at i ∙ o), λ f. h.1 (λ i l o. f i l (sym (at i) ∙ o)))

  -- two lists of rules that agree in each of them
  own_agree_from : (from : ℕ) (rules others : List (Rule C)) → length rules ≡ length others
      → ((i : ℕ) → i < length rules → word desks (from + i) ≡ desk → get_or rules i no_rule ≡ get_or others i no_rule)
      → own_from from rules ≡ own_from from others
  own_agree_from from [] [] long h = refl
  own_agree_from from [] (s ∷ others) long h = absurd (omega arith)
  own_agree_from from (r ∷ rules) [] long h = absurd (omega arith)
  own_agree_from from (r ∷ rules) (s ∷ others) long h =
      let ih = own_agree_from (suc from) rules others (omega arith) (λ i l o. h (suc i) (omega arith) (sym (further desks from i) ∙ o)) in
      elim (ℕ_discrete (word desks from) desk) [
        | yes e ↦
            own-yes from r rules e
            ∙ rw (h 0 (omega arith) (here desks from ∙ e), ih) (sym (own-yes from s others e))
        | no n ↦ own_no from r rules n ∙ ih ∙ sym (own_no from s others n)
      ]

  pub own_agree : (rules others : List (Rule C)) → length rules ≡ length others
      → ((i : ℕ) → i < length rules → word desks i ≡ desk → get_or rules i no_rule ≡ get_or others i no_rule)
      → own_rules desks desk rules ≡ own_rules desks desk others
  unfolding own_rules
  own_agree rules others long h = own_agree_from 0 rules others long (λ i l o. h i l (sym (ap (word desks) (zero-add i)) ∙ o))

-- ---- two desks

-- where each rule is 0's or 1's, the trigger tokens of both are those of all
shared-from : {C : Type 0} (lines : ℕ → List Token) (desks : List ℕ) (from : ℕ) (rules : List (Rule C))
    → ((i : ℕ) → i < length rules → word desks (from + i) ≤ 1)
    → examined lines rules ≡ examined lines (rules_alone (own_from desks 0 from rules)) + examined lines (rules_alone (own_from desks 1 from rules))
unfolding examined numbered of_desk
shared-from lines desks from [] low = omega arith
shared-from lines desks from (r ∷ rules) low =
    let ih = shared-from lines desks (suc from) rules (λ i l. rw (further desks from i) (low (suc i) (omega arith))) in
    let word_low : word desks from ≤ 1 = rw (here desks from) at (low 0 (omega arith)) in
    elim (ℕ_discrete (word desks from) 0) [
      | yes e ↦ rw (eq-eqb (word desks from) 0 e, ne_eqb (word desks from) 1 (λ q. omega arith)) (omega arith)
      | no n ↦ rw (ne_eqb (word desks from) 0 n, eq-eqb (word desks from) 1 (omega arith)) (omega arith)
    ]

pub shared : {C : Type 0} (lines : ℕ → List Token) (desks : List ℕ) (rules : List (Rule C)) → ((i : ℕ) → i < length rules → word desks i ≤ 1)
    → examined lines rules ≡ examined lines (rules_alone (own_rules desks 0 rules)) + examined lines (rules_alone (own_rules desks 1 rules))
unfolding own_rules
shared lines desks rules low = shared-from lines desks 0 rules (λ i l. rw (ap (word desks) (zero-add i)) (low i l))
