-- `earliest::Table::put_names` meets its contract, by the invariant in Invariants.antt. Assumes nothing.
use Rattle.earliest.proofs.Filling.{added_then, names_more}
use Rattle.earliest.proofs.Table.put_names.Goals as goal

pub loop-i-preserved : goal.loop-i-preserved
loop-i-preserved c =
    let l = c.loop-i in
    let a = c.args in
    let put = rw (c.word_at-in-loop-i.ensures, c.word_at.ensures) at c.put_name.ensures in
    added_then l.invariant put (λ x z. names_more a.b.now a.at l.i x)
