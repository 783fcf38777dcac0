-- The invariant of `bounds::raise_rows`: the bounds of the first i rows are raised. Assumes nothing.
use Rattle.bounds.specs.Steps.{RaisedRows}
use Rattle.bounds.proofs.raise_rows.Given as goal

abbrev pub invariant-loop-i : goal.invariant-loop-i
invariant-loop-i l = RaisedRows l.k l.i l.initial.w l.w
