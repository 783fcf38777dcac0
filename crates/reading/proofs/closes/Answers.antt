-- `reading::closes` meets its contract. Assumes nothing.
use mathlib.Core.Path.{◌∙◌}
use Rattle.reading.proofs.Laws.{closes-event, closes-action}
use Rattle.reading.proofs.closes.Goals as goal

pub returns-then-p-eq0 : goal.returns-then-p-eq0
returns-then-p-eq0 c =
    closes-event _ _ c.args.p c.if-p-eq0.true

pub returns : goal.returns
returns c =
    c.ends_here.ensures ∙ closes-action _ _ c.args.p c.if-p-eq0.false
