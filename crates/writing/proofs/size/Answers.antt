-- `writing::size` meets its contract: an entry of the table is at most 3. Assumes nothing.
use borrow.Author.Rules.{rules}
use Rattle.writing.proofs.Left.{size_small}
use Rattle.writing.proofs.size.Goals as goal

pub returns : goal.returns
returns c = (search rules, size_small _ c.requires)
