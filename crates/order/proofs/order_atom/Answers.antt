-- `order::order_atom` meets its contract: the kinds of the two terms, and the bounds. Assumes nothing.
use Rattle.order.proofs.Atoms.{atom_is}
use Rattle.order.proofs.order_atom.Goals as goal

pub returns : goal.returns
returns c =
    atom_is _ _ _ _ _ _ _ _ _ c.word.ensures c.timeless-left.ensures c.word-2.ensures c.timeless-right.ensures c.word-3.ensures
    c.word-4.ensures c.order_bounds-bounds.ensures
