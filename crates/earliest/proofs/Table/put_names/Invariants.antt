-- `earliest::Table::put_names` meets its contract. The invariant: the first i names are put. Assumes nothing.
use Rattle.earliest.specs.Steps.{Added, NamesTimed}
use Rattle.earliest.proofs.Table.put_names.Given as goal

abbrev pub invariant-loop-i : goal.invariant-loop-i
invariant-loop-i l = Added (NamesTimed l.b l.at l.i) l.initial.self.bounds l.self.bounds
