-- `marks::all_needed` meets its contract. The loop's invariant: whether all need it is whether those so far and those from number k on do.
-- Assumes nothing.
use mathlib.Core.Path.{◌≡◌}
use mathlib.Core.Bool.{◌&&◌}
use lib.ListN.{drop}
use Rattle.marks.specs.Marked.{all_need}
use Rattle.marks.proofs.all_needed.Given as goal

abbrev pub invariant-loop-k : goal.invariant-loop-k
invariant-loop-k l = all_need l.set 0 l.fn.needs ≡ (l.all && all_need l.set l.k (drop l.k l.fn.needs))
