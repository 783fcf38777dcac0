-- `choice::terms_placed` meets its contract: the two terms of an atom. Assumes nothing.
use Rattle.choice.proofs.SoFar.{placed_terms}
use Rattle.choice.proofs.terms_placed.Goals as goal

pub returns : goal.returns
returns c =
    placed_terms _ _ _ _ _ _ _ _ _ c.word.ensures c.word-2.ensures c.term_placed.ensures c.word-3.ensures
    c.word-4.ensures c.term_placed-2.ensures
