-- `earliest::Table::put_atoms` meets its contract. The invariant: the first i atoms are put. Assumes nothing.
use Rattle.earliest.specs.Steps.{Added, AtomsTimed}
use Rattle.earliest.proofs.Table.put_atoms.Given as goal

abbrev pub invariant-loop-i : goal.invariant-loop-i
invariant-loop-i l = Added (AtomsTimed l.b l.at l.i) l.initial.self.bounds l.self.bounds
