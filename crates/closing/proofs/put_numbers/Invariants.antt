-- `closing::put_numbers` meets its contract. The invariant: the first i numbers are written, the others are left. Assumes nothing.
use Prim.Native.Nat.{◌+◌, ◌-◌}
use Rattle.writing.proofs.Writing.{GoingTo}
use Rattle.closing.specs.Left.{numbers_from}
use Rattle.closing.proofs.put_numbers.Given as goal

abbrev pub invariant-loop-i : goal.invariant-loop-i
invariant-loop-i l = GoingTo l.fn.w (numbers_from l.n l.k) l.w (numbers_from (l.n - l.i) (l.k + l.i))
