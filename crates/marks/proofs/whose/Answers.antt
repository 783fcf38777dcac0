-- `marks::whose` meets its contract. Assumes nothing.
use Rattle.marks.specs.Marked.{whose}
use Rattle.marks.proofs.whose.Goals as goal

pub returns-then-kind-x : goal.returns-then-kind-x
unfolding whose
returns-then-kind-x c = rw c.if-kind-x.true

pub returns-else-kind-x : goal.returns-else-kind-x
unfolding whose
returns-else-kind-x c = rw c.if-kind-x.false
