-- `words::decode` meets its contract, by the invariant in Invariants.antt. Assumes nothing.
use native.Mathlib.Omega.{arith}
use Rattle.words.proofs.Laws.{store}
use Rattle.words.proofs.decode.Goals as goal

pub loop-i-preserved : goal.loop-i-preserved
loop-i-preserved c =
    let args = c.args in
    cc (store args.s.now args.out.now c.loop-i.i (omega arith))
