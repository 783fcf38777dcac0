-- The stages of `plan_fault`: the lines' answer first, then that of the tokens, then that of the lines' ends. Assumes nothing.
use mathlib.Core.Path.{◌≡◌, sym, ap, ◌∙◌}
use mathlib.Core.List.{List}
use Prim.Native.Nat.{ℕ}
use Rattle.answers.specs.Numbers.{or_else}
use Rattle.layout.proofs.Order.{else_else}
use Rattle.lines.specs.Ends.{ends_fault}
use Rattle.lines.specs.Fault.{length_fault, head_fault, end_fault, lines_fault}
use Rattle.plan.specs.Fault.{tokens_fault, plan_fault}

-- the lines' answer, or else that of the tokens, or else that of the lines' ends
pub by_lines : (b p : List ℕ) → plan_fault b p ≡ or_else (lines_fault b p) (or_else (tokens_fault b p) (ends_fault b p))
unfolding plan_fault lines_fault
by_lines b p =
    sym
    (else_else (length_fault b p) (or_else (head_fault b p) (end_fault b p)) _
    ∙ ap (or_else (length_fault b p)) (else_else (head_fault b p) (end_fault b p) _))
