-- `marks::all_needed` meets its contract: one relation after another. Assumes nothing.
use mathlib.Core.Path.{sym, ◌∙◌}
use native.Mathlib.Omega.{arith}
use Rattle.marks.proofs.Relations.{need_next, need_none}
use Rattle.marks.proofs.all_needed.Goals as goal

pub loop-k-preserved : goal.loop-k-preserved
loop-k-preserved c = c.loop-k.invariant ∙ need_next _ _ _ _ _ (omega arith) c.in_set.ensures

pub returns : goal.returns
returns c = sym (c.loop-k.invariant ∙ need_none _ _ _ _ (omega arith))
