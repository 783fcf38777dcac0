-- `closing::put_numbers` meets its contract, by the invariant in Invariants.antt. Assumes nothing.
use mathlib.Core.List.{[], ◌∷◌}
use Prim.Native.Nat.{◌+◌}
use native.Mathlib.Omega.{arith}
use Rattle.words.proofs.Write.{has_first}
use Rattle.closing.proofs.Left.{numbers-all, numbers-next, numbers-none}
use Rattle.writing.proofs.Writing.{to_start, to_go, to_done, to_room}
use Rattle.closing.proofs.put_numbers.Goals as goal

pub loop-i-init : goal.loop-i-init
loop-i-init c = to_start _ (numbers-all _ _)

pub put-requires : goal.put-requires
put-requires c =
    has_first ((c.args.k + c.loop-i.i) ∷ []) _ (rw (numbers-next c.args.n c.loop-i.i c.args.k (omega arith)) at (to_room c.requires.1 c.loop-i.invariant))

pub loop-i-preserved : goal.loop-i-preserved
loop-i-preserved c = to_go c.loop-i.invariant (numbers-next _ _ _ (omega arith)) c.put.ensures

pub returns : goal.returns
returns c = to_done c.loop-i.invariant (numbers-none _ _ _ (omega arith))
