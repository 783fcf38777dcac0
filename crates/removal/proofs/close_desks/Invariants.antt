-- `removal::close_desks` meets its contract. The invariant: the words of the first i kept rules are put, and those behind are as they were.
-- Assumes nothing.
use Rattle.removal.proofs.Desks.{Closed}
use Rattle.removal.proofs.close_desks.Given as goal

abbrev pub invariant-loop-i : goal.invariant-loop-i
invariant-loop-i l = Closed l.initial.desks l.left l.desks l.i
