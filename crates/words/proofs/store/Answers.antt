-- `words::store` meets its contract, by the invariant in Invariants.antt. Assumes nothing.
use mathlib.Core.Path.{refl}
use native.Mathlib.Omega.{arith}
use Rattle.words.specs.Bytes.{bytes_of}
use Rattle.words.proofs.Bytes.{bytes_more}
use Rattle.words.proofs.Write.{none, then}
use Rattle.words.proofs.store.Goals as goal

pub loop-w-init : goal.loop-w-init
unfolding bytes_of
loop-w-init c =
    (refl, none _ _)

pub loop-w-preserved : goal.loop-w-preserved
loop-w-preserved c =
    let l = c.loop-w in
    let w = c.put_bytes-at.ensures in
    (omega (arith, w.next), rw (bytes_more c.args.s.now l.w-index (omega arith)) (then l.invariant.1 w))
