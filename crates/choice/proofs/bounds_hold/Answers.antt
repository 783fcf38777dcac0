-- `choice::bounds_hold` meets its contract: the six words of the atom, and the times of its two terms. Assumes nothing.
use Rattle.choice.proofs.Laws.{atom_is}
use Rattle.choice.proofs.bounds_hold.Goals as goal

pub returns : goal.returns
returns c =
    atom_is _ _ _ _ _ _ _ _ _ _ _ _ c.word.ensures c.word-2.ensures c.term-left.ensures
    c.word-3.ensures c.word-4.ensures c.term-right.ensures c.word-5.ensures c.word-6.ensures c.in_bounds.ensures
