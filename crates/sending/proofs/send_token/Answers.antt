-- `sending::send_token` meets its contract. Assumes nothing.
use Rattle.sending.proofs.send_token.Goals as goal

pub returns : goal.returns
returns c =
    rw (c.word_at-edition.ensures, c.word_at-value.ensures, c.job_at-job.ensures) at c.send_action.ensures
