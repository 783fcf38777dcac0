-- `marks::ask_early` meets its contract: a constraint, or an atom's six words. Assumes nothing.
use Rattle.marks.proofs.Sides.{told_atom}
use Rattle.marks.proofs.ask_early.Goals as goal

pub returns : goal.returns
returns c =
    told_atom _ _ _ _ _ _ _ _ _ _ _ _ c.if-e-eq2.false c.word-i.ensures c.word-x.ensures c.word-j.ensures c.word-y.ensures c.word-lower.ensures c.word-upper.ensures c.bounds_early.ensures
