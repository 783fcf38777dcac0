-- `front_earliest::tteokbiran_earliest` meets its contract: each number is the answer's, and the times are as they were left. Assumes nothing.
use Rattle.earliest.proofs.Answering.{told-numbers}
use Rattle.front_earliest.proofs.tteokbiran_earliest.Goals as goal

pub returns : goal.returns
returns c =
    let told = c.tell.ensures in
    rw (told.number_after, told.a_after, told.b_after, told.c_after) (told-numbers c.numbers_of.ensures c.earliest.ensures)
