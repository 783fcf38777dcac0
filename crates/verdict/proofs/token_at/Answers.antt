-- `verdict::token_at` meets its contract: value and job as they were read. Assumes nothing.
use Rattle.verdict.proofs.token_at.Goals as goal

pub returns : goal.returns
returns c = rw (c.word_at.ensures, c.job_at.ensures)
