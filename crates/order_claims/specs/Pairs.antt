-- What the theorems of proofs/Pairs are said in. Assumes nothing.
use Rattle.std.specs.Prelude.{List, [], ◌∷◌}

-- R holds of each element and the one at the same place of the other list
abbrev pub Pairs : {A B : Type 0} → (A → B → Type 0) → List A → List B → Type 0
Pairs R [] [] = Unit
Pairs R [] (y ∷ ys) = ⊥
Pairs R (x ∷ xs) [] = ⊥
Pairs R (x ∷ xs) (y ∷ ys) = R x y × Pairs R xs ys
