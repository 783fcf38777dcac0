-- Taking rules out is an easing, as L14 defines it, so what is proved of easing holds of it; and the list of desks that is left is the list that is
-- closed up there. Assumes nothing.
use mathlib.Core.Path.{◌≡◌, refl, ap, ◌∙◌, subst}
use mathlib.Core.Bool.{Bool, true, false, not, cond}
use mathlib.Core.List.{List, [], ◌∷◌}
use Prim.Native.Nat.{ℕ, suc}
use lib.Dec.{eqb}
use lib.ListN.{length}
use Rattle.words.specs.Lists.{any}
use Rattle.book.specs.Rules.{Atom, Rule, rules_of}
use Rattle.book.specs.Encode.{atoms}
use Rattle.desks_claims.specs.Eased.{Eased, closed_up}
use Rattle.desks_claims.specs.Removing.{kept_by}
use Rattle.desks_claims.proofs.Removing.{removing, removing_closes}
use Rattle.removal.specs.Removed.{kept}
use Rattle.removal_claims.specs.Easing.{unlisted}

-- what is kept of a list of numbers is what is kept by that test
pub kept_by_lem : {A : Type 0} (list : List ℕ) (i : ℕ) (xs : List A) → kept_by (unlisted list) i xs ≡ kept list i xs
unfolding kept_by kept
kept_by_lem list i [] = refl
kept_by_lem {A} list i (x ∷ xs) = by (any (eqb i) list) (kept_by_lem list (suc i) xs)
  where
    by : {l m : List A} (t : Bool) → l ≡ m → cond (not t) (x ∷ l) l ≡ cond t m (x ∷ m)
    by true h = h
    by false h = ap (λ (k : List A). x ∷ k) h

-- THE LAWS: the kept rules ease the book's, the listed ones being those removed,
pub removal_eases : (b list : List ℕ)
    → Eased (rules_of atoms b) (kept list 0 (rules_of atoms b)) (kept_by (λ k. not (unlisted list k)) 0 (rules_of atoms b))
removal_eases b list =
    subst (λ (new : List (Rule Atom)). Eased (rules_of atoms b) new (kept_by (λ k. not (unlisted list k)) 0 (rules_of atoms b)))
    (kept_by_lem list 0 (rules_of atoms b)) (removing (unlisted list) 0 (rules_of atoms b))

-- and the list of desks is closed up as there
pub desks_closed : (b list desks : List ℕ) → length desks ≡ length (rules_of atoms b)
    → closed_up (removing (unlisted list) 0 (rules_of atoms b)) desks ≡ kept list 0 desks
desks_closed b list desks h = removing_closes (unlisted list) 0 (rules_of atoms b) desks h ∙ kept_by_lem list 0 desks
