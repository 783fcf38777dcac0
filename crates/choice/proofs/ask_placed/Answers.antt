-- `choice::ask_placed` meets its contract: the two tokens of a constraint or of an atom of jobs, or the two terms of another atom. Assumes nothing.
use Rattle.choice.proofs.SoFar.{placed_sheet, placed_jobs, placed_book}
use Rattle.choice.proofs.ask_placed.Goals as goal

pub returns-then-e-eq2 : goal.returns-then-e-eq2
returns-then-e-eq2 c =
    placed_sheet _ _ _ _ _ _ _ c.if-e-eq2.true c.word.ensures c.word-then-e-eq2.ensures c.tokens_placed.ensures

pub returns-then-word-eq4 : goal.returns-then-word-eq4
returns-then-word-eq4 c =
    placed_jobs _ _ _ _ _ _ _ _ c.if-e-eq2.false c.word-2.ensures c.if-word-eq4.true c.word-then-word-eq4.ensures c.word-then-word-eq4-2.ensures c.tokens_placed-then-word-eq4.ensures

pub returns : goal.returns
returns c =
    placed_book _ _ _ _ _ _ c.if-e-eq2.false c.word-2.ensures c.if-word-eq4.false c.terms_placed.ensures
