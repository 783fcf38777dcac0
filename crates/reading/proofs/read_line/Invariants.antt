-- `reading::read_line` meets its contract. The loop's invariant: what was put, and the tokens that are left, are the line. Assumes nothing.
use Prim.Native.Nat.{◌-◌}
use lib.ListN.{length}
use Rattle.reading.proofs.Whole.{Passing}
use Rattle.reading.proofs.read_line.Given as goal

abbrev pub invariant-loop : goal.invariant-loop
invariant-loop l = Passing l.list l.initial.room l.room l.at l.x l.o (length l.list - l.counter) l.p
