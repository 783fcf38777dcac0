-- `order::rank_line` meets its contract: its loop keeps the invariant, and leaves what is promised. Assumes nothing.
use native.Mathlib.Omega.{arith}
use Rattle.order.proofs.Ranking.{rank-begins, rank_over, rank_tick, rank_more}
use Rattle.order.proofs.rank_line.Goals as goal

pub loop-i-init : goal.loop-i-init
loop-i-init c =
    let pre = c.requires in
    rank-begins _ _ _ _ _ _ _ c.token_width-w.ensures.0 pre.0 pre.1 pre.2 pre.3 pre.4 c.first_stand-first.ensures

pub overflow_add-end : goal.overflow_add-end
overflow_add-end c = omega (arith, rank_tick _ _ _ _ _ _ _ _ _ _ _ _ c.loop-i.invariant c.loop-i-test.true _ c.word_at-end.ensures)

pub loop-i-preserved : goal.loop-i-preserved
loop-i-preserved c =
    rank_more _ _ _ _ _ _ _ _ _ _ _ _ c.loop-i.invariant c.loop-i-test.true _ c.word_at-end.ensures _ c.number_from-r.ensures

pub returns : goal.returns
returns c = rank_over _ _ _ _ _ _ _ _ _ _ _ _ c.loop-i.invariant c.loop-i-test.false
