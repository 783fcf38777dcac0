-- `composition::compose_row` meets its contract. Assumes nothing.
use borrow.Author.Rules.{rules}
use Rattle.composition.specs.Table.{row_set}
use Rattle.composition.proofs.compose_row.Goals as goal

pub returns : goal.returns
unfolding row_set
returns c = c.union_over.ensures _ (λ k r l e. search rules)
