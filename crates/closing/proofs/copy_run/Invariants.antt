-- `closing::copy_run` meets its contract. The invariant: the first i words are copied, the others are left. Assumes nothing.
use Prim.Native.Nat.{◌+◌, ◌-◌}
use Rattle.listing.proofs.Going.{Going}
use Rattle.closing.specs.Left.{words_at}
use Rattle.closing.proofs.copy_run.Given as goal

abbrev pub invariant-loop-i : goal.invariant-loop-i
invariant-loop-i l = Going l.fn.out l.to (words_at l.s l.at l.n) l.out (l.to + l.i) (words_at l.s (l.at + l.i) (l.n - l.i))
