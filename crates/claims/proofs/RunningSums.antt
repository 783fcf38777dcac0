-- "First tokens are running sums of the counts, from 0": the words before the tokens of a plan are right exactly if each line's first token is
-- the sum of the counts before it, by induction on the line; and the tokens of all lines together end at the length. Assumes nothing.
use mathlib.Core.Path.{◌≡◌, refl, sym, ap, ◌∙◌}
use mathlib.Core.Logic.{◌↔◌}
use mathlib.Core.List.{List}
use Prim.Native.Nat.{ℕ, zero, suc, ◌+◌, ◌-◌, ◌*◌, ◌≤◌, ◌<◌}
use native.Mathlib.Decide.{dec_lt}
use native.Mathlib.Omega.{arith}
use lib.ListN.{length}
use borrow.Author.Tests.{ne_eqb}
use Rattle.layout.specs.Layout.{count}
use Rattle.lines.specs.Lines.{line_first, token_width}
use Rattle.lines.specs.Fault.{sum_before}
use Rattle.claims.specs.Wrongs.{Tables}
use Rattle.claims.specs.RunningSums.{tokens_before, RunningSums}

module _ (p : List ℕ) (n : ℕ) where
  -- each line begins where the line before ends, as the test has it; and it begins after all tokens before
  abbrev Follow : Type 0
  Follow = (v : ℕ) → v < n → line_first p v ≡ sum_before p v

  -- where all lines before begin so, they end at the sum of their counts
  sum_is : (v : ℕ) → ((k : ℕ) → k < v → line_first p k ≡ tokens_before p k) → sum_before p v ≡ tokens_before p v
  unfolding sum_before tokens_before
  sum_is zero h = refl
  sum_is (suc v) h =
      let one : suc v - 1 ≡ v = omega arith in
      rw (ne_eqb (suc v) 0 (omega arith), one, h v (omega arith))

  sums_upto : Follow → (v : ℕ) → v ≤ n → (k : ℕ) → k < v → line_first p k ≡ tokens_before p k
  sums_upto f zero l k m = absurd (omega arith)
  sums_upto f (suc v) l k m =
      let before = sums_upto f v (omega arith) in
      elim (dec_lt k v) [ yes q ↦ before k q | no q ↦ let is : k ≡ v = omega arith in rw is (f v (omega arith) ∙ sum_is v before) ]

  -- THE LAW
  pub running_sums : Follow ↔ RunningSums p n
  running_sums = (λ f. sums_upto f n (omega arith), λ h v l. h v l ∙ sym (sum_is v (λ k m. h k (omega arith))))

-- of a plan whose tables are right: first tokens are running sums, and "tokens end at the length"
pub first_tokens : (b p : List ℕ) → Tables b p
    → RunningSums p (count b 0) × (3 + 2 * count b 0 + token_width p * tokens_before p (count b 0) ≡ length p)
first_tokens b p t =
    let sums = (running_sums p (count b 0)).0 t.head.follow in
    (sums, ap (λ (x : ℕ). 3 + 2 * count b 0 + token_width p * x) (sym (sum_is p (count b 0) (count b 0) sums)) ∙ t.whole)
