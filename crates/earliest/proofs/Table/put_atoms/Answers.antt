-- `earliest::Table::put_atoms` meets its contract, by the invariant in Invariants.antt. Assumes nothing.
use Rattle.earliest.proofs.Filling.{added_then, atoms_more}
use Rattle.earliest.proofs.Table.put_atoms.Goals as goal

pub loop-i-preserved : goal.loop-i-preserved
loop-i-preserved c =
    let l = c.loop-i in
    let a = c.args in
    added_then l.invariant c.put_atom.ensures (λ x z. atoms_more a.b.now a.at l.i x)
