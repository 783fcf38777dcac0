-- What easing does to rules: each that is met stays met, and the trigger tokens of the old rules are those of the new ones and of those removed.
-- Over any rules, and for one desk with its list beside them. Assumes nothing.
use mathlib.Core.Path.{◌≡◌, refl, sym, ap, ◌∙◌}
use mathlib.Core.Bool.{Bool, true, false, ◌&&◌, ◌||◌, not, cond, true≢false, false≢true}
use mathlib.Core.List.{List, [], ◌∷◌}
use Prim.Native.Nat.{ℕ, suc, ◌+◌, ◌-◌, ◌<◌}
use native.Mathlib.Omega.{arith}
use lib.Dec.{ltb, eqb}
use lib.ListN.{length, drop}
use lib.Seq.{drop-cons}
use borrow.Author.Tests.{lt-ltb, le-ltb}
use Rattle.words.specs.Words.{word}
use Rattle.words.specs.Lists.{All, any}
use Rattle.words.proofs.Lists.{any_append}
use Rattle.words.specs.Least.{first}
use Rattle.words.proofs.Least.{first-none, first_some}
use Rattle.book.specs.Rules.{Alternative, Rule}
use Rattle.lines.specs.declared.Token.{Token}
use Rattle.lines.specs.Ends.{plan_end}
use Rattle.choice.specs.Met.{Choice, triggered, alternative_met, met}
use Rattle.verdict.specs.Judged.{trigger_line, is_trigger, examined, unmet, first_unmet, rule_unmet}
use Rattle.desks.specs.Own.{numbered, of_desk, own_rules, triggers_of}
use Rattle.desks_claims.specs.Numbering.{rules_alone}
use Rattle.desks_claims.specs.Eased.{with_more, Eased, none, kept, removed, closed_up, taken_out}

-- ---- one rule

-- a test that holds less often
any_less : {A : Type 0} (p q : A → Bool) → ((x : A) → q x ≡ true → p x ≡ true) → (xs : List A) → any p xs ≡ false → any q xs ≡ false
unfolding any
any_less p q h [] e = refl
any_less p q h (x ∷ xs) e = by (p x) (q x) (h x) e (any_less p q h xs)
  where
    by : (t u : Bool) → (u ≡ true → t ≡ true) → (t || any p xs) ≡ false → (any p xs ≡ false → any q xs ≡ false) → (u || any q xs) ≡ false
    by true u f e rest = absurd (true≢false e)
    by false true f e rest = absurd (false≢true (f refl))
    by false false f e rest = rest e

module _ {C : Type 0} (holds : Choice → C → Bool) (lines : ℕ → List Token) where
  -- the test of a rule asks whether some trigger token is unmet
  unmet-any : (r : Rule C) → rule_unmet holds lines r ≡ any (unmet holds lines r) (trigger_line lines r)
  unfolding rule_unmet first_unmet
  unmet-any r = by (any (unmet holds lines r) (trigger_line lines r)) refl
    where
      by : (t : Bool) → any (unmet holds lines r) (trigger_line lines r) ≡ t
          → ltb (first (unmet holds lines r) (trigger_line lines r)) (length (trigger_line lines r)) ≡ t
      by true e = lt-ltb _ _ (first_some (unmet holds lines r) (trigger_line lines r) e)
      by false e =
          le-ltb (first (unmet holds lines r) (trigger_line lines r)) (length (trigger_line lines r))
          (omega (arith, first-none (unmet holds lines r) (trigger_line lines r) e))

  -- a trigger token is met with more alternatives where it is by the old ones, or by one that was added
  met_more : (r : Rule C) (more : List (Alternative C)) (t : Token)
      → met holds lines (with_more r more) t ≡ (met holds lines r t || any (alternative_met holds lines (triggered (plan_end lines) t)) more)
  unfolding met
  met_more r more t = any_append (alternative_met holds lines (triggered (plan_end lines) t)) r.alternatives more

  -- so one that is unmet with them is unmet without
  unmet_less : (r : Rule C) (more : List (Alternative C)) (t : Token) → unmet holds lines (with_more r more) t ≡ true → unmet holds lines r t ≡ true
  unfolding unmet is_trigger
  unmet_less r more t h =
      by (is_trigger lines r t) (met holds lines r t) (any (alternative_met holds lines (triggered (plan_end lines) t)) more) (rw (met_more r more t) at h)
    where
      by : (i m x : Bool) → (i && not (m || x)) ≡ true → (i && not m) ≡ true
      by true true x e = e
      by true false x e = refl
      by false m x e = e

  -- and a rule that is met stays met
  more_met : (r s : Rule C) (more : List (Alternative C)) → s ≡ with_more r more → rule_unmet holds lines r ≡ false → rule_unmet holds lines s ≡ false
  unfolding trigger_line
  more_met r s more is e =
      ap (rule_unmet holds lines) is ∙ unmet-any (with_more r more)
      ∙ any_less (unmet holds lines r) (unmet holds lines (with_more r more)) (unmet_less r more) (trigger_line lines r) (sym (unmet-any r) ∙ e)

-- and has the same trigger tokens
more_triggers : {C : Type 0} (lines : ℕ → List Token) (r s : Rule C) (more : List (Alternative C)) → s ≡ with_more r more
    → triggers_of lines s ≡ triggers_of lines r
unfolding trigger_line is_trigger
more_triggers lines r s more is = rw is

-- ---- all rules

module _ {C : Type 0} (holds : Choice → C → Bool) (lines : ℕ → List Token) where
  -- a rule is met
  abbrev pub Fine : Rule C → Type 0
  Fine r = rule_unmet holds lines r ≡ false

  pub eased_fine : {old new gone : List (Rule C)} → Eased old new gone → All Fine old → All Fine new
  eased_fine none a = tt
  eased_fine (kept {r} {s} more e h) a = (more_met holds lines r s more e a.0, eased_fine h a.1)
  eased_fine (removed h) a = eased_fine h a.1

pub eased_count : {C : Type 0} (lines : ℕ → List Token) {old new gone : List (Rule C)} → Eased old new gone
    → examined lines old ≡ examined lines new + examined lines gone
unfolding examined
eased_count lines none = omega arith
eased_count lines (kept {r} {s} more e h) = omega (arith, eased_count lines h, more_triggers lines r s more e)
eased_count lines (removed h) = omega (arith, eased_count lines h)

-- ---- the rules of one desk

-- by a list of desks beside the rules
unfoldable own_by : {C : Type 0} → ℕ → List ℕ → List (Rule C) → List (Rule C)
own_by desk desks [] = []
own_by desk [] (r ∷ rules) = []
own_by desk (d ∷ desks) (r ∷ rules) = cond (eqb d desk) (r ∷ own_by desk desks rules) (own_by desk desks rules)

-- these are the desk's own, where the list has one word for each rule
own-by-from : {C : Type 0} (desks : List ℕ) (desk from : ℕ) (rules : List (Rule C)) → length desks - from ≡ length rules
    → rules_alone (of_desk desks desk (numbered from rules)) ≡ own_by desk (drop from desks) rules
unfolding numbered of_desk own_by
own-by-from desks desk from [] long = refl
own-by-from desks desk from (r ∷ rules) long =
    let below : from < length desks = omega arith in
    rw (drop-cons desks from 0 below) (by (eqb (word desks from) desk) (own-by-from desks desk (suc from) rules (omega arith)))
  where
    by : (t : Bool) → rules_alone (of_desk desks desk (numbered (suc from) rules)) ≡ own_by desk (drop (suc from) desks) rules
        → rules_alone
        (cond t (record { number = from; rule = r } ∷ of_desk desks desk (numbered (suc from) rules)) (of_desk desks desk (numbered (suc from) rules)))
        ≡ cond t (r ∷ own_by desk (drop (suc from) desks) rules) (own_by desk (drop (suc from) desks) rules)
    by true e = ap (λ (l : List (Rule _)). r ∷ l) e
    by false e = e

own-by : {C : Type 0} (desks : List ℕ) (desk : ℕ) (rules : List (Rule C)) → length desks ≡ length rules
    → rules_alone (own_rules desks desk rules) ≡ own_by desk desks rules
unfolding own_rules
own-by desks desk rules long = own-by-from desks desk 0 rules (omega arith)

-- the lists of words have one for each rule
pub closed-long : {C : Type 0} {old new gone : List (Rule C)} (h : Eased old new gone) (desks : List ℕ) → length desks ≡ length old
    → length (closed_up h desks) ≡ length new
unfolding closed_up
closed-long none [] long = refl
closed-long none (d ∷ desks) long = refl
closed-long (kept more e h) [] long = absurd (omega arith)
closed-long (kept more e h) (d ∷ desks) long = ap suc (closed-long h desks (omega arith))
closed-long (removed h) [] long = absurd (omega arith)
closed-long (removed h) (d ∷ desks) long = closed-long h desks (omega arith)

taken_long : {C : Type 0} {old new gone : List (Rule C)} (h : Eased old new gone) (desks : List ℕ) → length desks ≡ length old
    → length (taken_out h desks) ≡ length gone
unfolding taken_out
taken_long none [] long = refl
taken_long none (d ∷ desks) long = refl
taken_long (kept more e h) [] long = absurd (omega arith)
taken_long (kept more e h) (d ∷ desks) long = taken_long h desks (omega arith)
taken_long (removed h) [] long = absurd (omega arith)
taken_long (removed h) (d ∷ desks) long = ap suc (taken_long h desks (omega arith))

-- and what holds of each word holds of those that are kept
pub closed_all : {C : Type 0} (P : ℕ → Type 0) {old new gone : List (Rule C)} (h : Eased old new gone) (desks : List ℕ) → All P desks
    → All P (closed_up h desks)
unfolding closed_up
closed_all P none [] a = tt
closed_all P none (d ∷ desks) a = tt
closed_all P (kept more e h) [] a = tt
closed_all P (kept more e h) (d ∷ desks) a = (a.0, closed_all P h desks a.1)
closed_all P (removed h) [] a = tt
closed_all P (removed h) (d ∷ desks) a = closed_all P h desks a.1

module _ {C : Type 0} (holds : Choice → C → Bool) (lines : ℕ → List Token) (desk : ℕ) where
  by_fine : {old new gone : List (Rule C)} (h : Eased old new gone) (desks : List ℕ) → length desks ≡ length old
      → All (Fine holds lines) (own_by desk desks old) → All (Fine holds lines) (own_by desk (closed_up h desks) new)
  unfolding own_by closed_up
  by_fine none desks long a = tt
  by_fine (kept more e h) [] long a = absurd (omega arith)
  by_fine (kept {r} {s} {old} {new} more e h) (d ∷ desks) long a = by (eqb d desk) (λ w. by_fine h desks (omega arith) w) a
    where
      by : (t : Bool) → (All (Fine holds lines) (own_by desk desks old) → All (Fine holds lines) (own_by desk (closed_up h desks) new))
          → All (Fine holds lines) (cond t (r ∷ own_by desk desks old) (own_by desk desks old))
          → All (Fine holds lines) (cond t (s ∷ own_by desk (closed_up h desks) new) (own_by desk (closed_up h desks) new))
      by true rest a = (more_met holds lines r s more e a.0, rest a.1)
      by false rest a = rest a
  by_fine (removed h) [] long a = absurd (omega arith)
  by_fine (removed {r} {old} {new} h) (d ∷ desks) long a = by (eqb d desk) (λ w. by_fine h desks (omega arith) w) a
    where
      by : (t : Bool) → (All (Fine holds lines) (own_by desk desks old) → All (Fine holds lines) (own_by desk (closed_up h desks) new))
          → All (Fine holds lines) (cond t (r ∷ own_by desk desks old) (own_by desk desks old))
          → All (Fine holds lines) (own_by desk (closed_up h desks) new)
      by true rest a = rest a.1
      by false rest a = rest a

  -- the desk's own rules that are met stay met
  pub own_fine : {old new gone : List (Rule C)} (h : Eased old new gone) (desks : List ℕ) → length desks ≡ length old
      → All (Fine holds lines) (rules_alone (own_rules desks desk old)) → All (Fine holds lines) (rules_alone (own_rules (closed_up h desks) desk new))
  own_fine {old} {new} h desks long a =
      rw (own-by (closed_up h desks) desk new (closed-long h desks long)) (by_fine h desks long (rw (own-by desks desk old long) at a))

module _ {C : Type 0} (lines : ℕ → List Token) (desk : ℕ) where
  by_count : {old new gone : List (Rule C)} (h : Eased old new gone) (desks : List ℕ) → length desks ≡ length old
      → examined lines (own_by desk desks old)
      ≡ examined lines (own_by desk (closed_up h desks) new) + examined lines (own_by desk (taken_out h desks) gone)
  unfolding own_by closed_up taken_out examined
  by_count none desks long = omega arith
  by_count (kept more e h) [] long = absurd (omega arith)
  by_count (kept {r} {s} {old} {new} {gone} more e h) (d ∷ desks) long = by (eqb d desk) (by_count h desks (omega arith))
    where
      by : (t : Bool)
          → examined lines (own_by desk desks old)
          ≡ examined lines (own_by desk (closed_up h desks) new) + examined lines (own_by desk (taken_out h desks) gone)
          → examined lines (cond t (r ∷ own_by desk desks old) (own_by desk desks old))
          ≡ examined lines (cond t (s ∷ own_by desk (closed_up h desks) new) (own_by desk (closed_up h desks) new))
          + examined lines (own_by desk (taken_out h desks) gone)
      by true q = omega (arith, more_triggers lines r s more e)
      by false q = q
  by_count (removed h) [] long = absurd (omega arith)
  by_count (removed {r} {old} {new} {gone} h) (d ∷ desks) long = by (eqb d desk) (by_count h desks (omega arith))
    where
      by : (t : Bool)
          → examined lines (own_by desk desks old)
          ≡ examined lines (own_by desk (closed_up h desks) new) + examined lines (own_by desk (taken_out h desks) gone)
          → examined lines (cond t (r ∷ own_by desk desks old) (own_by desk desks old))
          ≡ examined lines (own_by desk (closed_up h desks) new)
          + examined lines (cond t (r ∷ own_by desk (taken_out h desks) gone) (own_by desk (taken_out h desks) gone))
      by true e = omega arith
      by false e = e

  -- and the desk's trigger tokens are those of its new rules and of its rules removed
  pub own-count : {old new gone : List (Rule C)} (h : Eased old new gone) (desks : List ℕ) → length desks ≡ length old
      → examined lines (rules_alone (own_rules desks desk old))
      ≡ examined lines (rules_alone (own_rules (closed_up h desks) desk new)) + examined lines (rules_alone (own_rules (taken_out h desks) desk gone))
  own-count {old} {new} {gone} h desks long =
      rw (
        own-by desks desk old long,
        own-by (closed_up h desks) desk new (closed-long h desks long),
        own-by (taken_out h desks) desk gone (taken_long h desks long),
      ) (by_count h desks long)
