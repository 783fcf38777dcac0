-- `choice::constraint_holds` meets its contract: the three words of the constraint, and the times of its two tokens. Assumes nothing.
use Rattle.choice.proofs.Laws.{constraint_is}
use Rattle.choice.proofs.constraint_holds.Goals as goal

pub returns : goal.returns
returns c =
    constraint_is _ _ _ _ _ _ _ _ _ _ _ _ c.word-l.ensures c.word-r.ensures c.token_time.ensures c.token_time-2.ensures c.token_time-3.ensures
    c.token_time-4.ensures c.relation-k.ensures c.word.ensures c.in_set.ensures
