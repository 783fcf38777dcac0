-- What the theorems of proofs/Removing are said in. Assumes nothing.
use Rattle.std.specs.Prelude.{Bool, cond, List, [], ◌∷◌, ℕ, suc}

-- the elements whose number passes a test; the first has the number `from`
unfoldable pub kept_by : {A : Type 0} → (ℕ → Bool) → ℕ → List A → List A
kept_by p from [] = []
kept_by p from (x ∷ xs) = cond (p from) (x ∷ kept_by p (suc from) xs) (kept_by p (suc from) xs)
