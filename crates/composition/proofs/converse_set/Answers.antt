-- `composition::converse_set` meets its contract. Assumes nothing.
use borrow.Author.Rules.{rules}
use Rattle.composition.specs.Table.{converse_set}
use Rattle.composition.proofs.converse_set.Goals as goal

pub returns : goal.returns
unfolding converse_set
returns c = c.union_over.ensures _ (λ k r l e. search rules)
