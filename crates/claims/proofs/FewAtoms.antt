-- Why the translator has no test for an alternative of over 32 atoms (the number 16 isn't used): "a constraint becomes at most 3 atoms, an
-- alternative has at most 8 constraints", so no alternative of a sound sheet becomes one of over 24. Assumes nothing.
use Prim.Native.Nat.{ℕ, ◌*◌, ◌≤◌}
use native.Mathlib.Omega.{arith}
use mathlib.Core.List.{List, [], ◌∷◌, map}
use lib.ListN.{length, length-append}
use Rattle.words.specs.Lists.{All}
use Rattle.words.proofs.Lists.{all_get}
use Rattle.layout.specs.Layout.{fifth_most}
use Rattle.book.specs.Rules.{Atom, Constraint, Alternative, Rule, rules_of}
use Rattle.book.specs.Encode.{constraints}
use Rattle.book.specs.Sound.{Sound}
use Rattle.allen.specs.Atoms.{relations, atoms_of}
use Rattle.listing.specs.Expand.{choices, atoms_for, expand, translate}
use Rattle.translator.specs.Translation.{rules_for}
use Rattle.claims.specs.Decoded.{AlternativeFine, RuleFine, ConstraintFine}
use Rattle.claims.proofs.Decoded.{sheet_rules}
use Rattle.claims.proofs.Laws.{all_map, all_flat}

-- a relation becomes at most three atoms, whatever its number
relation_few : (k l r : ℕ) → length (atoms_of k l r) ≤ 3
unfolding atoms_of
relation_few k l r =
    all_get (λ (atoms : List Atom). length atoms ≤ 3) [] (omega arith) (relations l r) k
    (omega arith, (omega arith, (omega arith, (omega arith, (omega arith, (omega arith, (omega arith, (omega arith, (omega arith, (omega arith, (omega arith, (omega arith, (omega arith, tt)))))))))))))

-- so a choice has at most three for each constraint
pub atoms_few : (qs : List Constraint) (ks : List ℕ) → length (atoms_for qs ks) ≤ 3 * length qs
unfolding atoms_for
atoms_few [] ks = omega arith
atoms_few (q ∷ qs) [] = omega arith
atoms_few (q ∷ qs) (k ∷ ks) =
    omega (arith, length-append (atoms_of k q.left q.right) (atoms_for qs ks), relation_few k q.left q.right, atoms_few qs ks)

-- the alternatives that one of at most eight constraints becomes
pub expand_few : (a : Alternative Constraint) → length a.asks ≤ 8 → All (λ (c : Alternative Atom). length c.asks ≤ 24) (expand a)
unfolding expand
expand_few a h = all_map _ _ (λ ks. omega (arith, atoms_few a.asks ks)) (choices a.asks)

-- what is made of each element
through : {A B : Type 0} (P : A → Type 0) (Q : B → Type 0) (f : A → B) → ((x : A) → P x → Q (f x)) → (xs : List A) → All P xs → All Q (map f xs)
through P Q f h [] a = tt
through P Q f h (x ∷ xs) a = (h x a.0, through P Q f h xs a.1)

-- THE THEOREM: of the rules that a sound sheet becomes no alternative has over 24 atoms
pub at_most_24 : (s : List ℕ) → Sound 2 s → All (λ (r : Rule Atom). All (λ (c : Alternative Atom). length c.asks ≤ 24) r.alternatives) (rules_for s)
unfolding rules_for translate fifth_most
at_most_24 s sound = through (RuleFine ConstraintFine 2 s) _ translate one (rules_of constraints s) (sheet_rules sound)
  where
    one : (r : Rule Constraint) → RuleFine ConstraintFine 2 s r → All (λ (c : Alternative Atom). length c.asks ≤ 24) (translate r).alternatives
    one r h =
        all_flat (AlternativeFine ConstraintFine 2 s _) _ expand (λ a f. expand_few a f.few_asks) r.alternatives h.alternatives
