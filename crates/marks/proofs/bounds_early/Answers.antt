-- `marks::bounds_early` meets its contract: below lower the right side is told, above upper the left one. Assumes nothing.
use Rattle.marks.proofs.Sides.{told_right, told-left, few_kinds}
use Rattle.marks.proofs.bounds_early.Goals as goal

pub returns-then-in_bounds-2 : goal.returns-then-in_bounds-2
returns-then-in_bounds-2 c =
    let k = few_kinds _ _ c.if-i-j.false in
    told-left _ _ _ _ _ _ _ _ k.0 k.1 _ _ _ c.term-left.ensures c.term-right.ensures c.in_bounds-2.ensures _ _ c.in_bounds.ensures c.if-in_bounds.false c.if-in_bounds-2.true c.whose.ensures

pub returns : goal.returns
returns c =
    let k = few_kinds _ _ c.if-i-j.false in
    told_right _ _ _ _ _ _ _ _ k.0 k.1 _ _ _ c.term-left.ensures c.term-right.ensures c.in_bounds-2.ensures _ c.if-in_bounds-2.false c.whose-2.ensures
