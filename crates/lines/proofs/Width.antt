-- How many words a token has, and its job, by the plan's edition; and products with a width, over any width. Assumes nothing.
use mathlib.Core.Path.{◌≡◌}
use mathlib.Core.Bool.{Bool, true, false, cond}
use mathlib.Core.List.{List}
use Prim.Native.Nat.{ℕ, suc, ◌+◌, ◌*◌, ◌≤◌, ◌<◌}
use native.Mathlib.Nat.{mul-le-mul_left, mul-le-mul_right}
use native.Mathlib.Omega.{arith}
use lib.Dec.{eqb}
use borrow.Author.Tests.{eq-eqb, ne_eqb}
use Rattle.words.specs.Words.{word}
use Rattle.lines.specs.Lines.{token_width, job_at}

-- ---- any width

-- fewer tokens have no more words
pub words_rise : (w : ℕ) {m n : ℕ} → m ≤ n → w * m ≤ w * n
words_rise w l = mul-le-mul_left w l

-- the words of token j are among those of n tokens
pub words_inside : (w j n : ℕ) → j < n → w * j + w ≤ w * n
words_inside w j n l = let most : w * suc j ≤ w * n = mul-le-mul_left w l in omega arith

-- at most three words a token
pub words_few : (w n : ℕ) → w ≤ 3 → w * n ≤ 3 * n
words_few w n l = mul-le-mul_right n l

-- ---- a plan's width, and its tokens' jobs

module _ (p : List ℕ) where
  pub width_few : (2 ≤ token_width p) × (token_width p ≤ 3)
  unfolding token_width
  width_few = either (eqb (word p 0) 2)
    where
      either : (t : Bool) → (2 ≤ cond t 3 2) × (cond t 3 2 ≤ 3)
      either true = (omega arith, omega arith)
      either false = (omega arith, omega arith)

  -- edition 2
  module _ (h : word p 0 ≡ 2) where
    pub width_three : token_width p ≡ 3
    unfolding token_width
    width_three = rw (eq-eqb _ _ h)

    pub job-word : (place : ℕ) → job_at p place ≡ word p (place + 2)
    unfolding job_at
    job-word place = rw (eq-eqb _ _ h)

  -- any other
  module _ (h : word p 0 ≡ 2 → ⊥) where
    pub width_two : token_width p ≡ 2
    unfolding token_width
    width_two = rw (ne_eqb _ _ h)

    pub job-none : (place : ℕ) → job_at p place ≡ 0
    unfolding job_at
    job-none place = rw (ne_eqb _ _ h)
