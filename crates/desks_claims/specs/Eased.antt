-- "the book is changed only by adding alternatives at the end of rules or by removing whole rules", said of decoded rules; and the desk list that
-- goes with it. Assumes nothing.
use Rattle.std.specs.Prelude.{◌≡◌, List, [], ◌∷◌, ◌++◌, ℕ}
use Rattle.book.specs.Rules.{Alternative, Rule}

-- "adding alternatives at the end" of a rule
abbrev pub with_more : {C : Type 0} → Rule C → List (Alternative C) → Rule C
with_more r more = record { variable = r.variable; value = r.value; alternatives = r.alternatives ++ more }

-- "changed only by adding alternatives at the end of rules or by removing whole rules": the old rules, the new ones, and those removed
pub data Eased {C : Type 0} : List (Rule C) → List (Rule C) → List (Rule C) → Type 0 where
  none : Eased [] [] []
  kept : {r s : Rule C} {old new gone : List (Rule C)} (more : List (Alternative C)) → s ≡ with_more r more → Eased old new gone
      → Eased (r ∷ old) (s ∷ new) gone
  removed : {r : Rule C} {old new gone : List (Rule C)} → Eased old new gone → Eased (r ∷ old) new (r ∷ gone)

-- the desk list "closed up": the words of the rules that are kept
unfoldable pub closed_up : {C : Type 0} {old new gone : List (Rule C)} → Eased old new gone → List ℕ → List ℕ
closed_up h [] = []
closed_up none (d ∷ desks) = []
closed_up (kept more e h) (d ∷ desks) = d ∷ closed_up h desks
closed_up (removed h) (d ∷ desks) = closed_up h desks

-- and those of the rules removed
unfoldable pub taken_out : {C : Type 0} {old new gone : List (Rule C)} → Eased old new gone → List ℕ → List ℕ
taken_out h [] = []
taken_out none (d ∷ desks) = []
taken_out (kept more e h) (d ∷ desks) = taken_out h desks
taken_out (removed h) (d ∷ desks) = d ∷ taken_out h desks
