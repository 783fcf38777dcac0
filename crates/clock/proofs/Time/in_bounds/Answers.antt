-- `clock::Time::in_bounds` meets its contract: right comes before self or not. Assumes nothing.
use mathlib.Core.Path.{sym}
use Rattle.clock.specs.Clock.{no_limit}
use Rattle.clock.proofs.Laws.{in_before, in_after}
use Rattle.clock.proofs.Time.in_bounds.Goals as goal

pub returns-then-r-left : goal.returns-then-r-left
returns-then-r-left c =
    sym (in_before no_limit _ _ _ _ c.if-r-left.true)

pub returns : goal.returns
returns c =
    sym (in_after no_limit _ _ _ _ c.if-r-left.false)
