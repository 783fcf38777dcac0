-- `earliest::Table::put_difference` meets its contract: the bounds that it puts say the difference. Assumes nothing.
use native.Mathlib.Omega.{arith}
use Rattle.earliest.proofs.Filling.{near_first, added_as, added_then, apart-lower, apart_both}
use Rattle.earliest.proofs.Table.put_difference.Goals as goal

pub put_bound-requires : goal.put_bound-requires
put_bound-requires c =
    let p = c.requires in
    (p.0.below, p.1.below, near_first _ (omega arith) (omega arith))

pub put_bound-requires-then-upper-ne-NO_LIMIT : goal.put_bound-requires-then-upper-ne-NO_LIMIT
put_bound-requires-then-upper-ne-NO_LIMIT c =
    let p = c.requires in
    let u = p.2.high c.if-upper-ne-NO_LIMIT.true in
    (p.1.below, p.0.below, near_first _ (omega arith) (omega arith))

pub returns-then-upper-ne-NO_LIMIT : goal.returns-then-upper-ne-NO_LIMIT
returns-then-upper-ne-NO_LIMIT c =
    let a = c.args in
    let taken = c.if-upper-ne-NO_LIMIT.true in
    let u = c.requires.2.high taken in
    added_then
    c.put_bound.ensures
    c.put_bound-then-upper-ne-NO_LIMIT.ensures
    (apart_both a.left a.right a.lower a.upper _ (omega arith) (omega arith) _ (omega arith) (omega arith) taken)

pub returns-else-upper-ne-NO_LIMIT : goal.returns-else-upper-ne-NO_LIMIT
returns-else-upper-ne-NO_LIMIT c =
    let a = c.args in
    added_as
    c.put_bound.ensures
    (apart-lower a.left a.right a.lower a.upper _ (omega arith) (omega arith) c.if-upper-ne-NO_LIMIT.false)
