-- `choice::atom_holds` meets its contract: two jobs are equal, or two times within bounds. Assumes nothing.
use Rattle.choice.proofs.Laws.{atom_jobs, atom_bounds}
use Rattle.choice.proofs.atom_holds.Goals as goal

pub returns-then-word-eq4 : goal.returns-then-word-eq4
returns-then-word-eq4 c =
    atom_jobs _ _ _ _ _ _ _ _ c.word.ensures c.if-word-eq4.true c.word-then-word-eq4.ensures c.word-then-word-eq4-2.ensures c.token_job-left.ensures
    c.token_job-right.ensures

pub returns : goal.returns
returns c = atom_bounds _ _ _ _ _ c.word.ensures c.if-word-eq4.false c.bounds_hold.ensures
