-- `front_earliest::earliest` meets its contract: the words loaded are the file's words, and the times of them are asked. Assumes nothing.
use Rattle.earliest.proofs.Answering.{told-words}
use Rattle.front_earliest.proofs.earliest.Goals as goal

pub returns : goal.returns
returns c = told-words c.loaded.ensures c.earliest.ensures
