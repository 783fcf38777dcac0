-- Taking rules out by their numbers is an easing, and closes the desk list up alike: the words of the rules that are kept. Assumes nothing.
use mathlib.Core.Path.{◌≡◌, refl, ◌∙◌}
use mathlib.Core.Bool.{Bool}
use mathlib.Core.List.{List, [], ◌∷◌}
use Prim.Native.Nat.{ℕ, suc}
use native.Mathlib.Omega.{arith}
use lib.ListN.{length}
use Rattle.book.specs.Rules.{Rule}
use Rattle.desks_claims.specs.Eased.{closed_up}
use Rattle.desks_claims.specs.Removing.{kept_by}
use Rattle.desks_claims.proofs.Removed.{closed_more}
pub use Rattle.desks_claims.proofs.Removed.{removing}

module _ {C : Type 0} (p : ℕ → Bool) where
  -- THE LAWS: rules are taken out, as `removing` says, and the list is closed up
  pub removing_closes : (from : ℕ) (rules : List (Rule C)) (desks : List ℕ) → length desks ≡ length rules
      → closed_up (removing p from rules) desks ≡ kept_by p from desks
  unfolding kept_by closed_up removing
  removing_closes from rules [] long = refl
  removing_closes from [] (d ∷ desks) long = absurd (omega arith)
  removing_closes from (r ∷ rules) (d ∷ desks) long =
      closed_more r (p from) (removing p (suc from) rules) d desks ∙ rw (removing_closes (suc from) rules desks (omega arith))
