-- The atoms that each of Allen's relations becomes. Assumes nothing.
use Rattle.std.specs.Prelude.{List, [], ◌∷◌, ℕ, get_or}
use Rattle.clock.specs.Clock.{no_limit}
use Rattle.book.specs.Rules.{Atom}

-- "0 start of, 1 end of" a token of the alternative
pub record Term : Type 0 where
  pub kind : ℕ
  pub token : ℕ

abbrev pub start : ℕ → Term
start k = record { kind = 0; token = k }

abbrev pub end : ℕ → Term
end k = record { kind = 1; token = k }

infixl 70 ◌<·◌
infixl 70 ◌=·◌
-- ""p<q" is the atom p, q, lower 1, upper N"
abbrev pub ◌<·◌ : Term → Term → Atom
p <· q = record { left_kind = p.kind; left = p.token; right_kind = q.kind; right = q.token; lower = 1; upper = no_limit }

-- ""p=q" is p, q, 0, 0"
abbrev pub ◌=·◌ : Term → Term → Atom
p =· q = record { left_kind = p.kind; left = p.token; right_kind = q.kind; right = q.token; lower = 0; upper = 0 }

-- "Each relation becomes these atoms, in this order", of the tokens l and r
abbrev pub relations : ℕ → ℕ → List (List Atom)
relations l r =
    (end l <· start r ∷ [])
    ∷ (end l =· start r ∷ [])
    ∷ (start l <· start r ∷ start r <· end l ∷ end l <· end r ∷ [])
    ∷ (start l <· start r ∷ end l =· end r ∷ [])
    ∷ (start l <· start r ∷ end r <· end l ∷ [])
    ∷ (start l =· start r ∷ end l <· end r ∷ [])
    ∷ (start l =· start r ∷ end l =· end r ∷ [])
    ∷ (start l =· start r ∷ end r <· end l ∷ [])
    ∷ (start r <· start l ∷ end l <· end r ∷ [])
    ∷ (start r <· start l ∷ end l =· end r ∷ [])
    ∷ (start r <· start l ∷ start l <· end r ∷ end r <· end l ∷ [])
    ∷ (end r =· start l ∷ [])
    ∷ (end r <· start l ∷ [])
    ∷ []

-- the atoms of relation k
unfoldable pub atoms_of : ℕ → ℕ → ℕ → List Atom
atoms_of k l r = get_or (relations l r) k []
