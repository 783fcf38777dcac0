-- `moments::begin` meets its contract. The loop's invariant: the lines before v are whole. Assumes nothing.
use Rattle.event_list.specs.Plans.{line_tokens}
use Rattle.moments.proofs.Laws.{Upto}
use Rattle.moments.proofs.begin.Given as goal

abbrev pub invariant-loop-v : goal.invariant-loop-v
invariant-loop-v l = Upto l.plan l.s (line_tokens l.plan) l.v
