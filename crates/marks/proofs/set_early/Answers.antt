-- `marks::set_early` meets its contract: each relation of the set needs the right token later, or the left one. Assumes nothing.
use mathlib.Core.Path.{refl}
use Rattle.marks.proofs.Relations.{told_set_right, told-set-left}
use Rattle.marks.proofs.set_early.Goals as goal

pub returns-then-right_needed : goal.returns-then-right_needed
returns-then-right_needed c =
    told_set_right 2 _ _ _ _ _ _ _ refl c.word-l.ensures c.word-r.ensures c.word-set.ensures _ _ _ _ c.token_time-s.ensures c.token_time-e.ensures c.token_time-s2.ensures c.token_time-e2.ensures _ _ c.right_needed.ensures c.if-right_needed.true c.whose.ensures

pub returns-then-left_needed : goal.returns-then-left_needed
returns-then-left_needed c =
    told-set-left 2 _ _ _ _ _ _ _ refl c.word-l.ensures c.word-r.ensures c.word-set.ensures _ _ _ _ c.token_time-s.ensures c.token_time-e.ensures c.token_time-s2.ensures c.token_time-e2.ensures _ _ c.left_needed.ensures c.if-left_needed.true c.whose-then-left_needed.ensures
