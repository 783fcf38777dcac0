-- `earliest::Table::put_trigger` meets its contract. Assumes nothing.
use Rattle.earliest.proofs.Table.put_trigger.Goals as goal

pub returns-in-Some : goal.returns-in-Some
returns-in-Some c = rw c.in-Some.is c.put_name.ensures
