-- `earliest::show` meets its contract. The invariant: the first i of the times are copied, and the words behind them are as they were.
-- Assumes nothing.
use lib.ListN.{get_or}
use Rattle.earliest.specs.Times.{shown_from}
use Rattle.earliest.specs.Steps.{table_times, Copied}
use Rattle.earliest.proofs.show.Given as goal

abbrev pub invariant-loop-i : goal.invariant-loop-i
invariant-loop-i l =
    Copied (λ j. get_or (shown_from (table_times l.x) l.k l.n) j 0) l.i l.initial.times l.times
