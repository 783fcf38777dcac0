-- `choice::ask_holds` meets its contract: the definition's own two cases. Assumes nothing.
use borrow.Author.Tests.{eq-eqb, ne_eqb}
use Rattle.choice.specs.Asked.{ask_holds}
use Rattle.choice.proofs.ask_holds.Goals as goal

pub returns-then-e-eq2 : goal.returns-then-e-eq2
unfolding ask_holds
returns-then-e-eq2 c = simp (eq-eqb _ _ c.if-e-eq2.true) c.constraint_holds.ensures

pub returns-else-e-eq2 : goal.returns-else-e-eq2
unfolding ask_holds
returns-else-e-eq2 c = simp (ne_eqb _ _ c.if-e-eq2.false) c.atom_holds.ensures
