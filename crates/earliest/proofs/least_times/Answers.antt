-- `earliest::least_times` meets its contract. Assumes nothing.
use Rattle.earliest.proofs.Answering.{least}
use Rattle.earliest.proofs.least_times.Goals as goal

pub returns : goal.returns
returns c = least c.filled.ensures c.earliest.ensures
