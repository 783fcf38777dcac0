-- `allen::order` meets its contract, by what the comparison says. Assumes nothing.
use mathlib.Core.Path.{sym, ◌∙◌}
use native.Mathlib.Omega.{arith}
use Rattle.allen.proofs.Laws.{order-is}
use Rattle.allen.proofs.order.Goals as goal

pub returns-in-Less : goal.returns-in-Less
returns-in-Less c = (order-is _ _ _ (sym c.in-Less.is ∙ c.cmp.ensures), omega arith)

pub returns-in-Equal : goal.returns-in-Equal
returns-in-Equal c = (order-is _ _ _ (sym c.in-Equal.is ∙ c.cmp.ensures), omega arith)

pub returns-in-Greater : goal.returns-in-Greater
returns-in-Greater c = (order-is _ _ _ (sym c.in-Greater.is ∙ c.cmp.ensures), omega arith)
