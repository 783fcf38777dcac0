-- `words::in_set` meets its contract: a word has no bit from 32 on. Assumes nothing.
use mathlib.Core.Path.{◌≡◌, refl, ◌∙◌}
use Prim.Native.Nat.{ℕ, ◌/◌, ◌^◌, ◌≤◌, ◌<◌}
use native.Mathlib.Nat.{pow-le-pow_right, div-eq_of_lt}
use native.Mathlib.Omega.{arith}
use mathlib.Core.Bool.{false}
use borrow.Author.Tests.{le-ltb}
use lib.Dec.{lit<}
use Rattle.words.specs.Words.{in_set}
use Rattle.words.proofs.in_set.Goals as goal

none_above : (s k : ℕ) → s < 2 ^ 32 → 32 ≤ k → false ≡ in_set s k
unfolding in_set
none_above s k h l =
    let far : 2 ^ 32 ≤ 2 ^ k = pow-le-pow_right (lit< tt) l in
    let gone : s / 2 ^ k ≡ 0 = div-eq_of_lt (omega arith) in
    rw gone

pub returns-then-k-lt32 : goal.returns-then-k-lt32
unfolding in_set
returns-then-k-lt32 c =
    refl

pub returns-else-k-lt32 : goal.returns-else-k-lt32
returns-else-k-lt32 c =
    le-ltb _ _ c.if-k-lt32.false ∙ none_above _ _ (omega arith) c.if-k-lt32.false
