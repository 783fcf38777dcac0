-- What a sheet becomes, on decoded rules: each alternative is multiplied out into one for each choice of relations. Assumes nothing.
use Rattle.std.specs.Prelude.{Bool, cond, ℕ, ltb, length}
use mathlib.Core.List.{List, [], ◌∷◌, ◌++◌, map, flat_map}
use Rattle.words.specs.Words.{in_set}
use Rattle.book.specs.Rules.{Atom, Constraint, Alternative, Rule, rules_of}
use Rattle.allen.specs.Relation.{thirteen}
use Rattle.allen.specs.Atoms.{atoms_of}
use Rattle.book.specs.Encode.{constraints}

-- those of a list that pass
unfoldable pub keep : (ℕ → Bool) → List ℕ → List ℕ
keep p [] = []
keep p (k ∷ ks) = cond (p k) (k ∷ keep p ks) (keep p ks)

-- the relations of a set, "relations ascending"
unfoldable pub relations_in : ℕ → List ℕ
relations_in set = keep (in_set set) thirteen

-- "each choice of a relation from each set, relations ascending; the last constraint turns fastest"
unfoldable pub choices : List Constraint → List (List ℕ)
choices [] = [] ∷ []
choices (q ∷ qs) = flat_map (λ (k : ℕ). map (λ (rest : List ℕ). k ∷ rest) (choices qs)) (relations_in q.set)

-- the atoms of a choice: those of its relations in turn
unfoldable pub atoms_for : List Constraint → List ℕ → List Atom
atoms_for [] ks = []
atoms_for (q ∷ qs) [] = []
atoms_for (q ∷ qs) (k ∷ ks) = atoms_of k q.left q.right ++ atoms_for qs ks

-- "An alternative becomes one for each choice"; "Names are copied into each"
unfoldable pub expand : Alternative Constraint → List (Alternative Atom)
expand a = map (λ (ks : List ℕ). record { names = a.names; asks = atoms_for a.asks ks }) (choices a.asks)

-- a rule: what its alternatives become, in their order
unfoldable pub translate : Rule Constraint → Rule Atom
translate r = record { variable = r.variable; value = r.value; alternatives = flat_map expand r.alternatives }

-- the rules of the book that a sheet becomes
unfoldable pub rules_for : List ℕ → List (Rule Atom)
rules_for s = map translate (rules_of constraints s)

-- 13 "first rule that would have over 64 alternatives"
unfoldable pub too_many : Rule Atom → Bool
too_many r = ltb 64 (length r.alternatives)
