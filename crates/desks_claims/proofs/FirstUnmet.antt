-- The first of a desk's own rules that isn't met, by its number in the book: 12 is told exactly of it. Over any rules. Assumes nothing.
use mathlib.Core.Path.{◌≡◌, refl, sym, ap, ◌∙◌, subst}
use mathlib.Core.Bool.{Bool, true, false, cond, true≢false}
use mathlib.Core.Logic.{◌↔◌}
use mathlib.Core.List.{List, [], ◌∷◌}
use Prim.Native.Nat.{ℕ, zero, suc, ◌+◌, ◌<◌}
use native.Mathlib.Nat.{zero-add, add-zero}
use native.Mathlib.Decide.{ℕ_discrete}
use native.Mathlib.Omega.{arith}
use lib.ListN.{length, get_or}
use Rattle.words.specs.Words.{word}
use Rattle.answers.specs.declared.Numbers.{Numbers}
use Rattle.answers.specs.Numbers.{numbers}
use Rattle.book.specs.Rules.{Rule}
use Rattle.lines.specs.declared.Token.{Token}
use Rattle.choice.specs.Met.{Choice}
use Rattle.verdict.specs.Judged.{no_rule, first_unmet, rule_unmet}
use Rattle.desks.specs.Own.{numbered, of_desk, own_rules, triggers_of, fault_from, numbered_fault}
use Rattle.desks_claims.proofs.Numbering.{here, further, own_from, own-yes, own_no}

module _ {C : Type 0} (holds : Choice → C → Bool) (lines : ℕ → List Token) (desks : List ℕ) (desk : ℕ) where
  -- of rules numbered from `from` on, number a is the desk's first that isn't met, first at trigger token c
  record Twelve (from : ℕ) (rules : List (Rule C)) (a c : ℕ) : Type 0 where
    which : ℕ
    number : a ≡ from + which
    below : which < length rules
    own : word desks (from + which) ≡ desk
    before : (k : ℕ) → k < which → word desks (from + k) ≡ desk → rule_unmet holds lines (get_or rules k no_rule) ≡ false
    unmet : rule_unmet holds lines (get_or rules which no_rule) ≡ true
    token : first_unmet holds lines (get_or rules which no_rule) ≡ c

  module _ {from : ℕ} {r : Rule C} {rules : List (Rule C)} {a c : ℕ} where
    -- a rule before, that isn't the desk's or is met
    up : (word desks from ≡ desk → rule_unmet holds lines r ≡ false) → Twelve (suc from) rules a c → Twelve from (r ∷ rules) a c
    up fine t =
        record {
          which = suc t.which;
          number = omega (arith, t.number);
          below = omega (arith, t.below);
          own = sym (further desks from t.which) ∙ t.own;
          before = elim [ zero ↦ λ l o. fine (sym (here desks from) ∙ o) | suc k ↦ λ l o. t.before k (omega arith) (further desks from k ∙ o) ];
          unmet = t.unmet;
          token = t.token;
        }

    -- and back
    down : (word desks from ≡ desk → rule_unmet holds lines r ≡ false) → Twelve from (r ∷ rules) a c → Twelve (suc from) rules a c
    down fine t = by t.which t.number t.below t.own t.before t.unmet t.token
      where
        by : (i : ℕ) → a ≡ from + i → i < suc (length rules) → word desks (from + i) ≡ desk
            → ((k : ℕ) → k < i → word desks (from + k) ≡ desk → rule_unmet holds lines (get_or (r ∷ rules) k no_rule) ≡ false)
            → rule_unmet holds lines (get_or (r ∷ rules) i no_rule) ≡ true → first_unmet holds lines (get_or (r ∷ rules) i no_rule) ≡ c
            → Twelve (suc from) rules a c
        by zero e l o b u t = absurd (true≢false (sym u ∙ fine (sym (here desks from) ∙ o)))
        by (suc i) e l o b u t =
            record {
              which = i;
              number = omega arith;
              below = omega arith;
              own = further desks from i ∙ o;
              before = λ k m q. b (suc k) (omega arith) (sym (further desks from k) ∙ q);
              unmet = u;
              token = t;
            }

    -- the first is the desk's, and isn't met
    found : word desks from ≡ desk → rule_unmet holds lines r ≡ true → (numbers 12 from (first_unmet holds lines r) ≡ numbers 12 a c)
        ↔ Twelve from (r ∷ rules) a c
    found e u = (
      λ q.
          record {
            which = 0;
            number = sym (ap (λ (x : Numbers). x.a) q) ∙ sym (add-zero from);
            below = omega arith;
            own = here desks from ∙ e;
            before = λ k l. absurd (omega arith);
            unmet = u;
            token = ap (λ (x : Numbers). x.b) q;
          },
      λ t. by t.which t.number t.before t.token,
    )
      where
        by : (i : ℕ) → a ≡ from + i
            → ((k : ℕ) → k < i → word desks (from + k) ≡ desk → rule_unmet holds lines (get_or (r ∷ rules) k no_rule) ≡ false)
            → first_unmet holds lines (get_or (r ∷ rules) i no_rule) ≡ c → numbers 12 from (first_unmet holds lines r) ≡ numbers 12 a c
        by zero n b t = let m : from ≡ a = omega arith in rw (m, t)
        by (suc i) n b t = absurd (true≢false (sym u ∙ b 0 (omega arith) (here desks from ∙ e)))

  module _ (seen from : ℕ) (r : Rule C) (rules : List (Rule C)) (a c : ℕ) where
    -- the rest gives 12, once so many were counted
    abbrev RestGives : ℕ → Type 0
    RestGives n = (fault_from holds lines n (own_from desks desk (suc from) rules) ≡ numbers 12 a c) ↔ Twelve (suc from) rules a c

    step-own : word desks from ≡ desk → RestGives (seen + triggers_of lines r)
        → (fault_from holds lines seen (record { number = from; rule = r } ∷ own_from desks desk (suc from) rules) ≡ numbers 12 a c)
        ↔ Twelve from (r ∷ rules) a c
    unfolding fault_from
    step-own e ih = by (rule_unmet holds lines r) refl
      where
        by : (t : Bool) → rule_unmet holds lines r ≡ t
            → (cond t (numbers 12 from (first_unmet holds lines r)) (fault_from holds lines (seen + triggers_of lines r) (own_from desks desk (suc from) rules))
            ≡ numbers 12 a c)
            ↔ Twelve from (r ∷ rules) a c
        by true u = found e u
        by false u = (λ q. up (λ _. u) (ih.0 q), λ t. ih.1 (down (λ _. u) t))

    step-all : RestGives (seen + triggers_of lines r) → RestGives seen
        → (fault_from holds lines seen (own_from desks desk from (r ∷ rules)) ≡ numbers 12 a c) ↔ Twelve from (r ∷ rules) a c
    step-all more same =
        elim (ℕ_discrete (word desks from) desk) [
          | yes e ↦
              let is = own-yes desks desk from r rules e in
              let s = step-own e more in
              (λ q. s.0 (ap (fault_from holds lines seen) (sym is) ∙ q), λ t. ap (fault_from holds lines seen) is ∙ s.1 t)
          | no n ↦
              let is = own_no desks desk from r rules n in (
                λ q. up (λ e. absurd (n e)) (same.0 (ap (fault_from holds lines seen) (sym is) ∙ q)),
                λ t. ap (fault_from holds lines seen) is ∙ same.1 (down (λ e. absurd (n e)) t),
              )
        ]

  twelve_from : (seen from : ℕ) (rules : List (Rule C)) (a c : ℕ) → (fault_from holds lines seen (own_from desks desk from rules) ≡ numbers 12 a c)
      ↔ Twelve from rules a c
  unfolding fault_from numbered of_desk
  twelve_from seen from [] a c =
      (λ e. let z = ap (λ (x : Numbers). x.number) e in absurd (omega arith), λ t. let l = t.below in absurd (omega arith))
  twelve_from seen from (r ∷ rules) a c =
      step-all seen from r rules a c (twelve_from (seen + triggers_of lines r) (suc from) rules a c) (twelve_from seen (suc from) rules a c)

  -- number a is the desk's own rule that isn't met, first at trigger token c, and those before are met
  pub record FirstOwnUnmet (rules : List (Rule C)) (a c : ℕ) : Type 0 where
    pub below : a < length rules
    pub own : word desks a ≡ desk
    pub before : (k : ℕ) → k < a → word desks k ≡ desk → rule_unmet holds lines (get_or rules k no_rule) ≡ false
    pub unmet : rule_unmet holds lines (get_or rules a no_rule) ≡ true
    pub token : first_unmet holds lines (get_or rules a no_rule) ≡ c

  pub own_twelve : (rules : List (Rule C)) (a c : ℕ) → (numbered_fault holds lines (own_rules desks desk rules) ≡ numbers 12 a c)
      ↔ FirstOwnUnmet rules a c
  unfolding numbered_fault own_rules
  own_twelve rules a c =
      let h = twelve_from 0 0 rules a c in
      let at : (k : ℕ) → word desks (0 + k) ≡ word desks k = λ k. ap (word desks) (zero-add k) in (
        λ q.
            let t = h.0 q in
            let same : t.which ≡ a = omega (arith, t.number) in
            let is : FirstOwnUnmet rules t.which c = record {
              below = t.below;
              own = sym (at t.which) ∙ t.own;
              before = λ k l o. t.before k l (at k ∙ o);
              unmet = t.unmet;
              token = t.token;
            } in
            subst (λ (k : ℕ). FirstOwnUnmet rules k c) same is,
        λ f.
            h.1
            (record {
              which = a;
              number = omega arith;
              below = f.below;
              own = at a ∙ f.own;
              before = λ k l o. f.before k l (sym (at k) ∙ o);
              unmet = f.unmet;
              token = f.token;
            }),
      )
