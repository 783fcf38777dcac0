-- The stages of `lines_fault` in the order of checking, and that a plan without these faults has its tokens inside its words. Assumes
-- nothing.
use mathlib.Core.Path.{◌≡◌}
use mathlib.Core.Bool.{true, false, ◌||◌}
use mathlib.Core.List.{List}
use Prim.Native.Nat.{ℕ, ◌+◌, ◌*◌, ◌≤◌, ◌<◌}
use native.Mathlib.Omega.{arith}
use lib.Dec.{ltb}
use lib.ListN.{length}
use borrow.Author.Tests.{eqb-true, lt-ltb, le-ltb, eq-eqb, ne_eqb}
use Rattle.answers.specs.Numbers.{numbers, no_fault, or_else}
use Rattle.answers.proofs.Stages.{stages, stage, held}
use Rattle.words.specs.Least.{Clear}
use Rattle.words.proofs.Least.{least_at, least-end, none_below}
use Rattle.layout.specs.Layout.{count}
use Rattle.lines.specs.Lines.{line_count, token_width, line_place}
use Rattle.lines.specs.Fault.{length_fault, sum_before, head_wrong, first_head, head_fault, end_fault, lines_fault}
use Rattle.lines.proofs.Head.{head_good, line_inside}

-- `start` is where the tokens begin
module _ (b p : List ℕ) (start : ℕ) (begins : start ≡ 3 + 2 * count b 0) where
  pub fault-length : (ltb (length p) start || ltb 16384 (length p)) ≡ true → numbers 5 0 0 ≡ lines_fault b p
  unfolding lines_fault length_fault or_else
  fault-length h = rw (← begins, h)

  module _ (long : (ltb (length p) start || ltb 16384 (length p)) ≡ false) where
    pub fault-head : (k : ℕ) → Clear (head_wrong b p) k → k < start → head_wrong b p k ≡ true → numbers 6 k 0 ≡ lines_fault b p
    unfolding lines_fault length_fault head_fault or_else
    fault-head k h l e =
        let head : k ≡ first_head b p = least_at _ _ k h (omega arith) e in
        rw (← head, ← begins, long, lt-ltb k start l)

    -- no word before the tokens is wrong, and `taken` is how many words the tokens take
    module _ (clear : Clear (head_wrong b p) start) (taken : ℕ) (ends : taken ≡ token_width p * sum_before p (count b 0)) where
      none : start ≡ first_head b p
      none = least-end _ _ start clear (omega arith) (omega arith)

      pub fault-end : (start + taken ≡ length p → ⊥) → numbers 7 0 0 ≡ lines_fault b p
      unfolding lines_fault length_fault head_fault end_fault or_else
      fault-end z = rw (← none, ← ends, ← begins, long, le-ltb start start (omega arith), ne_eqb (start + taken) (length p) z)

      pub no_fault_lem : start + taken ≡ length p → no_fault ≡ lines_fault b p
      unfolding lines_fault length_fault head_fault end_fault or_else
      no_fault_lem z = rw (← none, ← ends, ← begins, long, le-ltb start start (omega arith), eq-eqb (start + taken) (length p) z)

-- where there is no fault, every line's tokens are inside the plan
pub lines_inside : (b p : List ℕ) → (lines_fault b p).number ≡ 0 → (v : ℕ) → v < count b 0 → line_place p v + token_width p * line_count p v ≤ length p
unfolding lines_fault head_fault end_fault
lines_inside b p h =
    let s = (stages _ _).0 ((stages _ _).0 h).1 in
    line_inside b p (head_good b p ((none_below (3 + 2 * count b 0) (head_wrong b p)).0 (stage _ 5 _ _ s.0))) (eqb-true _ _ (held _ 6 0 0 s.1))
