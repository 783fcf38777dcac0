-- `choice::term_placed` meets its contract: the definition's own tests. Assumes nothing.
use borrow.Author.Rules.{rules}
use Rattle.choice.specs.Asked.{term_placed}
use Rattle.choice.proofs.term_placed.Goals as goal

pub returns : goal.returns
unfolding term_placed
returns c = search rules
