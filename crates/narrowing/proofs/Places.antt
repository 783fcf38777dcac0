-- Places of a table for n tokens, at most five: that of two tokens, and the three of a step. Assumes nothing.
use mathlib.Core.Path.{◌≡◌, ◌∙◌}
use Prim.Native.Nat.{ℕ, zero, suc, ◌+◌, ◌*◌, ◌/◌, ◌%◌, ◌≤◌, ◌<◌}
use native.Mathlib.Nat.{mod-lt, div-lt_iff_lt-mul, mul-add-div_right, mul-add-mod_self_right, div-eq_of_lt, mod-eq_of_lt, mul-le-mul, mul-le-mul_right, suc-mul, add-zero}
use native.Mathlib.Omega.{arith}
use Rattle.narrowing.specs.Narrowed.{across, before, behind}

pub below : (x m j n : ℕ) → x < m → j < n → x * n + j < m * n
below x m j n h l = let g : suc x * n ≤ m * n = mul-le-mul_right n h in omega (arith, suc-mul x n)

some : (n t : ℕ) → t < n * n * n → 0 < n
some zero t h = absurd (omega arith)
some (suc n) t h = omega arith

pub record Places (n t : ℕ) : Type 0 where
  pub n-some : 0 < n
  pub first : t / n % n < n
  pub second : t / n / n < n
  pub third : t % n < n
  pub over : across n t < n * n
  pub front : before n t < n * n
  pub back : behind n t < n * n

pub places : (n t : ℕ) → t < n * n * n → Places n t
places n t h =
    let z = some n t h in
    let a : t / n % n < n = mod-lt (t / n) z in
    let b : t / n / n < n = (div-lt_iff_lt-mul z).1 ((div-lt_iff_lt-mul z).1 h) in
    let c : t % n < n = mod-lt t z in
    record { n-some = z; first = a; second = b; third = c; over = below _ n _ n a c; front = below _ n _ n a b; back = below _ n _ n b c }

pub div_cell : (n i j : ℕ) → j < n → (i * n + j) / n ≡ i
div_cell n i j h = mul-add-div_right (omega arith) i j ∙ rw (div-eq_of_lt h) (add-zero i)

pub mod_cell : (n i j : ℕ) → j < n → (i * n + j) % n ≡ j
mod_cell n i j h = mul-add-mod_self_right i n j ∙ mod-eq_of_lt h

-- at most five tokens
pub square : (n : ℕ) → n ≤ 5 → n * n ≤ 25
square n h = mul-le-mul h h

pub cube : (n : ℕ) → n ≤ 5 → n * n * n ≤ 125
cube n h = mul-le-mul (square n h) h

-- so the places of a step, and of a pair and the reversed one, are small numbers
pub record Small (n t : ℕ) : Type 0 where
  pub at : Places n t
  pub few : n * n ≤ 25

pub small : (n t : ℕ) → n ≤ 5 → t < n * n * n → Small n t
small n t h l = record { at = places n t l; few = square n h }

pub record Pair (n l r : ℕ) : Type 0 where
  pub over : l * n + r < n * n
  pub back : r * n + l < n * n
  pub few : n * n ≤ 25

pub pair : (n l r : ℕ) → n ≤ 5 → l < n → r < n → Pair n l r
pair n l r h a b = record { over = below l n r n a b; back = below r n l n b a; few = square n h }

-- a word in the table: there is a token
pub some-token : (n t : ℕ) → t < n * n → 0 < n
some-token zero t h = absurd (omega arith)
some-token (suc n) t h = omega arith
