-- `choice::put` meets its contract: the three stores are the definition's. Assumes nothing.
use mathlib.Core.Path.{◌∙◌}
use Rattle.choice.specs.Met.{put}
use Rattle.choice.proofs.put.Goals as goal

pub returns : goal.returns
unfolding put
returns c =
    rw (← c.job_place.ensures, ← c.time_place-2.ensures, ← c.time_place.ensures)
    (c.set_time-3.ensures ∙ rw (c.set_time-2.ensures, c.set_time.ensures))
