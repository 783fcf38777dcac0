-- `composition::compose` meets its contract. Assumes nothing.
use borrow.Author.Rules.{rules}
use Rattle.composition.specs.Table.{compose_sets}
use Rattle.composition.proofs.compose.Goals as goal

pub returns : goal.returns
unfolding compose_sets
returns c = c.union_over.ensures _ (λ k r l e. search rules)
