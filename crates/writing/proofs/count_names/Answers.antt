-- `writing::count_names` meets its contract: a run has as many names as its number says. Assumes nothing.
use mathlib.Core.Path.{sym, ◌∙◌}
use Rattle.writing.proofs.Left.{item_named}
use Rattle.writing.proofs.count_names.Goals as goal

pub returns : goal.returns
returns c = (c.number_at.ensures.0 ∙ sym (item_named _ _), c.number_at.ensures.1)
