-- The invariant of `bounds::raise_row`: the first j bounds of the row are raised. Assumes nothing.
use Rattle.bounds.specs.Steps.{RaisedRow}
use Rattle.bounds.proofs.raise_row.Given as goal

abbrev pub invariant-loop-j : goal.invariant-loop-j
invariant-loop-j l = RaisedRow l.k l.i l.j l.initial.w l.w
