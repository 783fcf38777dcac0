-- `writing::count_atoms` meets its contract: the item's digits are its choice. Assumes nothing.
use mathlib.Core.Path.{sym, ◌∙◌}
use Rattle.writing.proofs.Left.{item_count}
use Rattle.writing.proofs.count_atoms.Goals as goal

pub returns : goal.returns
returns c = (c.count_digits.ensures.0 ∙ sym (item_count _ _ _ c.number_at.ensures.0), c.count_digits.ensures.1)
