-- What the theorems of proofs/Editions are said in. Assumes nothing.
use Rattle.std.specs.Prelude.{◌≡◌, ℕ}

-- an edition that no plan has
abbrev pub NoEdition : ℕ → Type 0
NoEdition x = (x ≡ 1 → ⊥) × (x ≡ 2 → ⊥)
