-- A token's fault number: 0 where all four tests are passed, and else that of the first that fails. Assumes nothing.
use mathlib.Core.Path.{◌≡◌, refl}
use mathlib.Core.Bool.{Bool, true, false, ◌&&◌, not}
use mathlib.Core.List.{List}
use Prim.Native.Nat.{ℕ, ◌+◌, ◌-◌}
use native.Mathlib.Omega.{arith}
use lib.Dec.{ltb, eqb}
use borrow.Author.Tests.{ltb-true, eqb-false, not-true}
use Rattle.words.proofs.Least.{least_law}
use Rattle.clock.specs.Clock.{last_tick}
use Rattle.records.specs.Wrong.{value_unknown}
use Rattle.lines.specs.Lines.{line_count, value_of, duration_of, start_of}
use Rattle.plan.specs.Fault.{value_place, duration_outside, not_successor, token_fault, token_wrong, first_token, line_wrong}
use Rattle.plan.specs.Judge.{number_of}

-- the number is 0 where all four tests are passed
passes : (unknown outside breaks late : Bool) → number_of unknown outside breaks late ≡ 0
    → (unknown ≡ false) × (outside ≡ false) × (breaks ≡ false) × (late ≡ false)
passes true outside breaks late h = absurd (omega arith)
passes false true breaks late h = absurd (omega arith)
passes false false true late h = absurd (omega arith)
passes false false false true h = absurd (omega arith)
passes false false false false h = (refl, refl, refl, refl)

module _ (b p : List ℕ) (v j : ℕ) where
  -- the four tests of token j of line v
  abbrev pub unknown_at : Bool
  unknown_at = value_unknown 1 b v (value_of p v j)

  abbrev pub outside_at : Bool
  outside_at = duration_outside b (value_place b v (value_of p v j)) (duration_of p v j)

  abbrev pub breaks_at : Bool
  breaks_at = not (eqb j 0) && not_successor b (value_place b v (value_of p v (j - 1))) (value_of p v j)

  abbrev pub late_at : Bool
  late_at = ltb last_tick (start_of p v j + duration_of p v j)

  pub token-passes : token_fault b p v j ≡ 0 → (unknown_at ≡ false) × (outside_at ≡ false) × (breaks_at ≡ false) × (late_at ≡ false)
  unfolding token_fault
  token-passes = passes unknown_at outside_at breaks_at late_at

  -- the first test that fails says which number it is
  pub token-8 : unknown_at ≡ true → token_fault b p v j ≡ 8
  unfolding token_fault
  token-8 e = rw e

  pub token-9 : unknown_at ≡ false → outside_at ≡ true → token_fault b p v j ≡ 9
  unfolding token_fault
  token-9 e f = rw (e, f)

  pub token-10 : unknown_at ≡ false → outside_at ≡ false → breaks_at ≡ true → token_fault b p v j ≡ 10
  unfolding token_fault
  token-10 e f g = rw (e, f, g)

  pub token-11 : unknown_at ≡ false → outside_at ≡ false → breaks_at ≡ false → late_at ≡ true → token_fault b p v j ≡ 11
  unfolding token_fault
  token-11 e f g h = rw (e, f, g, h)

  pub token-0 : unknown_at ≡ false → outside_at ≡ false → breaks_at ≡ false → late_at ≡ false → token_fault b p v j ≡ 0
  unfolding token_fault
  token-0 e f g h = rw (e, f, g, h)

-- the first faulty token of a wrong line has a fault
pub bad_token : (b p : List ℕ) (v : ℕ) → line_wrong b p v ≡ true → token_fault b p v (first_token b p v) ≡ 0 → ⊥
unfolding line_wrong first_token token_wrong
bad_token b p v w z =
    let h : not (eqb (token_fault b p v (first_token b p v)) 0) ≡ true = (least_law (line_count p v) (token_wrong b p v)).here (ltb-true _ _ w) in
    eqb-false _ _ (not-true _ h) z
