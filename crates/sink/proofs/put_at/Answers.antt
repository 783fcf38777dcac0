-- `sink::put_at` meets its contract: past the end a store changes nothing. Assumes nothing.
use mathlib.Core.Path.{sym}
use native.Mathlib.Omega.{arith}
use lib.Seq.{set_out}
use Rattle.sink.proofs.put_at.Goals as goal

pub returns-then-room-at : goal.returns-then-room-at
returns-then-room-at c =
    sym (set_out _ _ _ (omega arith))
