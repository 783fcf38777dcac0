-- `earliest::Table::filled` meets its contract: the table says nothing, then what the trigger asks, the names, and the atoms. Assumes nothing.
use Rattle.earliest.proofs.Answering.{filled}
use Rattle.earliest.proofs.Table.filled.Goals as goal

pub returns : goal.returns
returns c =
    filled
    c.new-table.ensures
    c.put_trigger.ensures
    c.put_names.ensures
    c.put_atoms.ensures
