-- `front_reader::tteokbiran_step` meets its contract: what a step of the position says, number by number. Assumes nothing.
use Rattle.front_reader.proofs.Stepped.{handed, none, stepped, stayed}
use Rattle.front_reader.proofs.tteokbiran_step.Goals as goal

pub returns-in-Handed : goal.returns-in-Handed
returns-in-Handed c =
    let r = c.read_at.ensures in
    let t = c.in-Handed.is in
    record { value = handed _ _ _ _ _ r t; stepped = stepped _ _ _ _ _ _ _ _ _ _ r t }

pub returns-in-NoMore : goal.returns-in-NoMore
returns-in-NoMore c =
    let r = c.read_at.ensures in
    let back = c.in-NoMore.is in
    record { value = none _ _ _ _ r back; stepped = stayed _ _ _ _ _ _ _ _ _ r back }
