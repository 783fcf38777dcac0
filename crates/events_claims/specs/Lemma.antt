-- What the theorems of proofs/Lemma are said in. Assumes nothing.
use Rattle.std.specs.Prelude.{◌≡◌, List, ℕ, ◌<◌, length, get_or}

-- ---- lists made of what there is for each number

-- for each number below n there is something: a list of them
pub record Listed {A : Type 0} (R : ℕ → A → Type 0) (d : A) (n : ℕ) : Type 0 where
  pub list : List A
  pub long : length list ≡ n
  pub each : (i : ℕ) → i < n → R i (get_or list i d)

pub record One {A : Type 0} (R : A → Type 0) : Type 0 where
  pub one : A
  pub is : R one
