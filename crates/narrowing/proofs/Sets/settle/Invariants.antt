-- `narrowing::Sets::settle` meets its contract: what is kept is that the table came by cutting; the words' sum falls with each pass that
-- changes anything. Assumes nothing.
use Rattle.narrowing.specs.Lent.{Kept}
use Rattle.narrowing.specs.Narrowed.{Cut, sum}
use Rattle.narrowing.proofs.Sets.settle.Given as goal

abbrev pub invariant-loop : goal.invariant-loop
invariant-loop l = Kept l.initial.self l.self × Cut l.initial.self.tokens l.initial.self.table.now l.self.table.now

abbrev pub decreases-loop : goal.decreases-loop
decreases-loop l = sum l.self.table.now
