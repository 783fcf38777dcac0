-- `order::order_only` meets its contract: a book with a fault isn't such a book, and of one without every atom is asked. Assumes nothing.
use mathlib.Core.Path.{sym, ◌∙◌}
use Rattle.order.proofs.Atoms.{refused, passed}
use Rattle.order.proofs.order_only.Goals as goal

pub returns-then-is_ok : goal.returns-then-is_ok
returns-then-is_ok c = c.all_order.ensures ∙ passed _ _ c.check.ensures (sym c.is_ok.ensures.value ∙ c.if-is_ok.true)

pub returns-else-is_ok : goal.returns-else-is_ok
returns-else-is_ok c = c.if-is_ok.false ∙ refused _ _ c.check.ensures (sym c.is_ok.ensures.value ∙ c.if-is_ok.false)
