-- `matching::Search::tokens_left` meets its contract: the whole line, or what the mark leaves of it. Assumes nothing.
use native.Mathlib.Omega.{arith}
use Rattle.matching.proofs.Placing.{left-all, left_marked}
use Rattle.matching.proofs.Search.tokens_left.Goals as goal

pub returns-then-count-eq0 : goal.returns-then-count-eq0
returns-then-count-eq0 c =
    let w = c.tokens_of-w in
    left-all _ _ _ _ _ _ c.requires.0 w.ensures.0 w.ensures.1 w.ensures.2

pub returns : goal.returns
returns c =
    let w = c.tokens_of-w in
    left_marked _ _ _ _ _ _ _ _ _ _ _ _ c.requires.0 c.requires.1 w.ensures.0 (omega arith) c.token_time-count.ensures c.token_time-place.ensures c.token_time-start.ensures c.if-count-eq0.false
