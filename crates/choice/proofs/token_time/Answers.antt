-- `choice::token_time` meets its contract. Assumes nothing.
use Rattle.choice.specs.Met.{token_time}
use Rattle.choice.proofs.token_time.Goals as goal

pub returns : goal.returns
unfolding token_time
returns c = rw (← c.time_place.ensures) c.time_at.ensures
