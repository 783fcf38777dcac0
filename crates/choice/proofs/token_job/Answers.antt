-- `choice::token_job` meets its contract. Assumes nothing.
use Rattle.choice.specs.Met.{token_job}
use Rattle.choice.proofs.token_job.Goals as goal

pub returns : goal.returns
unfolding token_job
returns c = rw (← c.job_place.ensures) c.time_at.ensures
