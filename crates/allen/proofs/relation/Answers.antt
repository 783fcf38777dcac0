-- `allen::relation` meets its contract: what `across` found is the relation where left ends after right starts, and else the order of
-- these two is. Assumes nothing.
use mathlib.Core.Path.{sym, ◌∙◌}
use native.Mathlib.Omega.{arith}
use Rattle.allen.proofs.Laws.{order-is, near_is}
use Rattle.allen.proofs.relation.Goals as goal

pub returns-in-Less : goal.returns-in-Less
returns-in-Less c = near_is _ _ _ _ _ (order-is _ _ _ (sym c.in-Less.is ∙ c.cmp.ensures)) (λ q. omega (arith, q))

pub returns-in-Equal : goal.returns-in-Equal
returns-in-Equal c = near_is _ _ _ _ _ (order-is _ _ _ (sym c.in-Equal.is ∙ c.cmp.ensures)) (λ q. omega (arith, q))
