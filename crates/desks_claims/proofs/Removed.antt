-- Taking rules out by their numbers is an easing: those that are kept, and those that aren't. Assumes nothing.
use mathlib.Core.Path.{◌≡◌, refl, sym, ap}
use mathlib.Core.Bool.{Bool, true, false, not, cond}
use mathlib.Core.List.{List, [], ◌∷◌, append-nil}
use Prim.Native.Nat.{ℕ, suc}
use Rattle.book.specs.Rules.{Alternative, Rule}
use Rattle.desks_claims.specs.Eased.{with_more, Eased, none, kept, removed, closed_up}
use Rattle.desks_claims.specs.Removing.{kept_by}

module _ {C : Type 0} where
  -- a rule to which nothing is added
  as_it_was : (r : Rule C) → r ≡ with_more r []
  as_it_was r =
      ap (λ (l : List (Alternative C)). record { variable = r.variable; value = r.value; alternatives = l }) (sym (append-nil r.alternatives))

  -- one more rule in front, kept or not
  pub one_more : {old new gone : List (Rule C)} (r : Rule C) (t : Bool) → Eased old new gone
      → Eased (r ∷ old) (cond t (r ∷ new) new) (cond (not t) (r ∷ gone) gone)
  one_more r true h = kept [] (as_it_was r) h
  one_more r false h = removed h

  pub closed_more : {old new gone : List (Rule C)} (r : Rule C) (t : Bool) (h : Eased old new gone) (d : ℕ) (desks : List ℕ)
      → closed_up (one_more r t h) (d ∷ desks) ≡ cond t (d ∷ closed_up h desks) (closed_up h desks)
  unfolding closed_up one_more
  closed_more r true h d desks = refl
  closed_more r false h d desks = refl

  module _ (p : ℕ → Bool) where
    -- THE LAW
    unfoldable pub removing : (from : ℕ) (rules : List (Rule C)) → Eased rules (kept_by p from rules) (kept_by (λ k. not (p k)) from rules)
    unfolding kept_by
    removing from [] = none
    removing from (r ∷ rules) = one_more r (p from) (removing (suc from) rules)
