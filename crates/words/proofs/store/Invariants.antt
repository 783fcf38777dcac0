-- The invariant of `words::store`: the bytes of the words so far are written. Assumes nothing.
use mathlib.Core.Path.{◌≡◌}
use Prim.Native.Nat.{◌*◌}
use lib.ListN.{take}
use Rattle.words.specs.Bytes.{bytes_of}
use Rattle.words.specs.Write.{Wrote}
use Rattle.words.proofs.store.Given as goal

abbrev pub invariant-loop-w : goal.invariant-loop-w
invariant-loop-w l = (l.at ≡ 4 * l.w-index) × Wrote l.initial.out l.out 0 l.at (bytes_of (take l.w-index l.s))
