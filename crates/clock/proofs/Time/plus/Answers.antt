-- `clock::Time::plus` meets its contract: each return's test says which case of `later` it is. Assumes nothing.
use mathlib.Core.Path.{sym}
use native.Mathlib.Omega.{arith}
use Rattle.clock.specs.Clock.{last_tick}
use Rattle.clock.proofs.Laws.{later-at, later_past}
use Rattle.clock.proofs.Time.plus.Goals as goal

pub returns-then-t-gt-LAST_TICK : goal.returns-then-t-gt-LAST_TICK
returns-then-t-gt-LAST_TICK c =
    sym (later_past last_tick _ _ (omega arith))

pub returns-then-tick-gt-LAST_TICK : goal.returns-then-tick-gt-LAST_TICK
returns-then-tick-gt-LAST_TICK c =
    sym (later_past last_tick _ _ (omega arith))

pub returns : goal.returns
returns c =
    sym (later-at last_tick _ _ (omega arith))
