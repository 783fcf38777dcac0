-- `desks::list_right` meets its contract: as many words as rules, and each 0 or 1. Assumes nothing.
use borrow.Author.Rules.{rules}
use Rattle.std.specs.Prelude.{IsTrue, ◌↔◌, EachIndex, slice_index, ◌≤◌}
use Rattle.desks.proofs.Lists.{wrong_length, right_length}
use Rattle.desks.proofs.list_right.Goals as goal

pub returns-then-desks-number_at : goal.returns-then-desks-number_at
returns-then-desks-number_at c =
    let low : IsTrue c.all.result ↔ EachIndex c.args.desks.now (λ k. slice_index c.args.desks.now k ≤ 1) = search rules in
    right_length _ _ _ c.number_at.ensures.0 _ c.if-desks-number_at.true low

pub returns-else-desks-number_at : goal.returns-else-desks-number_at
returns-else-desks-number_at c = wrong_length _ _ _ c.number_at.ensures.0 c.if-desks-number_at.false
