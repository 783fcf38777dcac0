-- The least index below a number at which a test holds, the same of a list's elements: the test holds there, and nowhere
-- before. Assumes nothing.
use Rattle.std.specs.Prelude.{◌≡◌, Bool, true, false, cond, List, [], ◌∷◌, ℕ, zero, suc, ◌≤◌, ◌<◌}

-- the least index from i on, through n indexes, at which p holds, or i + n where there is none
abbrev pub least_from : ℕ → ℕ → (ℕ → Bool) → ℕ
least_from zero i p = i
least_from (suc n) i p = elim (p i) [ true ↦ i | false ↦ least_from n (suc i) p ]

-- the least index below n at which p holds, or n where there is none
unfoldable pub least : ℕ → (ℕ → Bool) → ℕ
least n p = least_from n 0 p

-- where the first element stands that p holds of; the length if of none
unfoldable pub first : {A : Type 0} → (A → Bool) → List A → ℕ
first p [] = 0
first p (x ∷ xs) = cond (p x) 0 (suc (first p xs))

-- p holds at no index below i
abbrev pub Clear : (ℕ → Bool) → ℕ → Type 0
Clear p i = (k : ℕ) → k < i → p k ≡ false

-- what `least n p` is
pub record Least (n : ℕ) (p : ℕ → Bool) (r : ℕ) : Type 0 where
  pub within : r ≤ n
  pub clear : Clear p r
  pub here : r < n → p r ≡ true
