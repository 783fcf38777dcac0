-- What the theorems of proofs/Plans are said in. Assumes nothing.
use Rattle.std.specs.Prelude.{◌≡◌, cond, List, ℕ, suc, ◌<◌, eqb}
use Rattle.lines.specs.Lines.{line_count, value_of, job_of, start_of}
use Rattle.allen.specs.Order.{order_of}

-- when token j of line v starts (side 0) or ends
unfoldable pub endpoint : List ℕ → ℕ → ℕ → ℕ → ℕ
endpoint p v j side = cond (eqb side 0) (start_of p v j) (start_of p v (suc j))

-- two plans of m lines "with the same values and the same order of all endpoints", which "then also asks for equal jobs":
-- of each two of them one is before, at or after the other alike
pub record SameOrder (m : ℕ) (p q : List ℕ) : Type 0 where
  pub tokens : (v : ℕ) → v < m → line_count p v ≡ line_count q v
  pub values : (v : ℕ) → v < m → (j : ℕ) → j < line_count p v → value_of p v j ≡ value_of q v j
  pub jobs : (v : ℕ) → v < m → (j : ℕ) → j < line_count p v → job_of p v j ≡ job_of q v j
  pub order : (v i side : ℕ) → v < m → i < line_count p v → (u j other : ℕ) → u < m → j < line_count p u
      → order_of (endpoint p v i side) (endpoint p u j other) ≡ order_of (endpoint q v i side) (endpoint q u j other)
