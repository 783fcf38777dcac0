-- What the theorems of proofs/InProfile are said in. Assumes nothing.
use Rattle.std.specs.Prelude.{◌≡◌, ◌⊎◌, List, ℕ, ◌+◌, ◌*◌, ◌<◌}
use Rattle.clock.specs.Clock.{no_limit}
use Rattle.layout.specs.Layout.{count, offset}
use Rattle.book.specs.Rules.{Atom, atom_at}
use Rattle.book.specs.Fault.{book_fault}

-- ---- the profile, in plain numbers

-- "(lower, upper) = (0, N), (1, N) or (0, 0), and none has a time point"; nor the end of the plan
pub record OfOrder (a : Atom) : Type 0 where
  pub left : (a.left_kind ≡ 2 → ⊥) × (a.left_kind ≡ 3 → ⊥)
  pub right : (a.right_kind ≡ 2 → ⊥) × (a.right_kind ≡ 3 → ⊥)
  pub bounds :
      ((a.lower ≡ 0) × (a.upper ≡ no_limit)) ⊎ (((a.lower ≡ 1) × (a.upper ≡ no_limit)) ⊎ ((a.lower ≡ 0) × (a.upper ≡ 0)))

-- "a yes or no that holds exactly for such books": it passes 1 to 4, and every atom is such
pub record InProfile (b : List ℕ) : Type 0 where
  pub passes : (book_fault 1 b).number ≡ 0
  pub atoms : (i : ℕ) → i < count b 5 → OfOrder (atom_at b (offset b 5 + i * 6))
