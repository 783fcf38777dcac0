-- Records that follow each other in words: `run` reads them, `Stands` says that words stand at a place, `rows` writes them.
-- Assumes nothing.
use Rattle.std.specs.Prelude.{◌≡◌, ℕ, zero, suc, ◌+◌, List, [], ◌∷◌, ◌++◌, drop}

-- n records of w words each, the first at the place `at`; f reads the record at a place
unfoldable pub run : {A : Type 0} → (ℕ → A) → ℕ → ℕ → ℕ → List A
run f w zero at = []
run f w (suc n) at = f at ∷ run f w n (at + w)

-- the words ws stand in b from the place `at` on
pub record Stands (b : List ℕ) (at : ℕ) (ws : List ℕ) : Type 0 where
  pub rest : List ℕ
  pub here : drop at b ≡ ws ++ rest

-- ---- rows that depend on what went before: each begins where the one before ends

module _ {A S : Type 0} (row : S → A → List ℕ) (step : S → A → S) where
  -- the rows of a list, one behind another, from the state s on
  unfoldable pub rows : S → List A → List ℕ
  rows s [] = []
  rows s (x ∷ xs) = row s x ++ rows (step s x) xs

  -- the state before row i
  unfoldable pub before : S → List A → ℕ → S
  before s xs zero = s
  before s [] (suc i) = s
  before s (x ∷ xs) (suc i) = before (step s x) xs i
