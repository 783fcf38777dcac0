-- `closing::copy_run` meets its contract, by the invariant in Invariants.antt. Assumes nothing.
use mathlib.Core.Path.{◌≡◌}
use Prim.Native.Nat.{◌+◌}
use native.Mathlib.Omega.{arith}
use Rattle.listing.proofs.Going.{start, go, done, put_one}
use Rattle.closing.proofs.Left.{words-all, words-next, words_long, words-none}
use Rattle.closing.proofs.copy_run.Goals as goal

pub loop-i-init : goal.loop-i-init
loop-i-init c =
    let at : c.args.to + 0 ≡ c.args.to = omega arith in
    rw at (start _ _ (words-all _ _ _))

pub bounds-out-to : goal.bounds-out-to
bounds-out-to c = omega (arith, c.requires.1.fits, words_long c.args.s.now c.args.at c.args.n)

pub loop-i-preserved : goal.loop-i-preserved
loop-i-preserved c =
    let at : c.args.to + c.loop-i.i + 1 ≡ c.args.to + (c.loop-i.i + 1) = omega arith in
    rw (← at) (go c.loop-i.invariant (words-next _ _ _ _ (omega arith)) (put_one _ _ _ c.word_at.ensures))

pub returns : goal.returns
returns c =
    let all : c.loop-i.i ≡ c.args.n = omega arith in
    done (rw all at c.loop-i.invariant) (words-none _ _ _ _ (omega arith))
