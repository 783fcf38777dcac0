-- A loop over a list, from front to back: what the whole comes to is what is passed and what the rest comes to. Assumes nothing.
use mathlib.Core.Path.{◌≡◌, ◌∙◌}
use mathlib.Core.Bool.{Bool, true, false}
use mathlib.Core.List.{List, [], ◌∷◌}
use Prim.Native.Nat.{ℕ, suc, ◌+◌}
use native.Mathlib.Nat.{zero-add, add-zero}
use native.Mathlib.Omega.{arith}
use lib.Dec.{ltb}
use lib.ListN.{length, get_or}
use borrow.Author.Tests.{lt-ltb, le-ltb}
use Rattle.words.specs.Least.{first}
use Rattle.words.proofs.Least.{first_hit, first_miss}

-- `done` elements of `whole` are passed, none of them bad, and they came to `seen`; `total` says what a list comes to
pub record Passed {A : Type 0} (bad : A → Bool) (total : List A → ℕ) (whole rest : List A) (done seen : ℕ) : Type 0 where
  pub long : length whole ≡ done + length rest
  pub first : first bad whole ≡ done + first bad rest
  pub sum : total whole ≡ seen + total rest
  pub here : (i : ℕ) (d : A) → get_or whole (done + i) d ≡ get_or rest i d

-- what stands at a place written another way
moved : {A : Type 0} (xs : List A) (d : A) {i j : ℕ} → i ≡ j → get_or xs i d ≡ get_or xs j d
moved xs d e = rw e

module _ {A : Type 0} {bad : A → Bool} {total : List A → ℕ} where
  -- the loop begins
  pub passed_none : (whole : List A) → Passed bad total whole whole 0 0
  passed_none whole = record { long = omega arith; first = omega arith; sum = omega arith; here = λ i d. rw zero-add }

  -- one more is passed
  pub passed-step : {whole rest : List A} {done seen : ℕ} (x : A) (k : ℕ) → Passed bad total whole (x ∷ rest) done seen → bad x ≡ false
      → total (x ∷ rest) ≡ k + total rest → Passed bad total whole rest (done + 1) (seen + k)
  passed-step {whole} {rest} {done} x k h fine e =
      record {
        long = omega (arith, h.long);
        first = omega (arith, h.first, first_miss bad x rest fine);
        sum = omega (arith, h.sum);
        here = λ i d. moved whole d {i = done + 1 + i} {j = done + suc i} (omega arith) ∙ h.here (suc i) d;
      }

  -- the next is bad
  pub passed_bad : {whole rest : List A} {done seen : ℕ} (x : A) → Passed bad total whole (x ∷ rest) done seen → bad x ≡ true
      → (ltb (first bad whole) (length whole) ≡ true) × (done ≡ first bad whole) × ((d : A) → get_or whole done d ≡ x)
  passed_bad {whole} {rest} x h e =
      let hit = first_hit bad x rest e in
      (lt-ltb (first bad whole) (length whole) (omega (arith, h.first, h.long)), omega (arith, h.first), λ d. rw add-zero at (h.here 0 d))

  -- all are passed
  pub passed-all : {whole : List A} {done seen : ℕ} → Passed bad total whole [] done seen → total [] ≡ 0
      → (ltb (first bad whole) (length whole) ≡ false) × (seen ≡ total whole)
  unfolding first
  passed-all {whole} h e = (le-ltb (first bad whole) (length whole) (omega (arith, h.first, h.long)), omega (arith, h.sum))
