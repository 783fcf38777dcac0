-- `reader::open` meets its contract: by what `check` answers, where the reader then stands. Assumes nothing.
use mathlib.Core.Path.{◌∙◌}
use Rattle.reader.proofs.Opening.{done_at, nowhere_at}
use Rattle.reader.proofs.open.Goals as goal

pub returns-in-Ok-clause-at_value : goal.returns-in-Ok-clause-at_value
returns-in-Ok-clause-at_value c = c.at_start-at.ensures ∙ done_at _ _ _ _ (rw c.in-Ok.is at c.check-answer.ensures)

pub returns-in-Err-clause-at_value : goal.returns-in-Err-clause-at_value
returns-in-Err-clause-at_value c = c.nowhere-at.ensures ∙ nowhere_at _ _ _ _ (rw c.in-Err.is at c.check-answer.ensures)
