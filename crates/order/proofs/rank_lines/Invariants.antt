-- `order::rank_lines` meets its contract. The loop's invariant: the lines passed have their durations by rank. Assumes nothing.
use mathlib.Core.Path.{◌≡◌}
use Rattle.order.specs.Ranked.{rank_lines}
use Rattle.order.proofs.rank_lines.Given as goal

abbrev pub invariant-loop-v : goal.invariant-loop-v
invariant-loop-v l = l.room ≡ rank_lines l.p l.v
