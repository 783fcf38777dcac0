-- `lines::check_ends` meets its contract: the first line that ends elsewhere, if there is one. Assumes nothing.
use native.Mathlib.Omega.{arith}
use Rattle.words.proofs.Least.{clear_more}
use Rattle.lines.proofs.Ends.{apart, together, line-apart, none_apart}
use Rattle.lines.proofs.check_ends.Goals as goal

pub returns-then-line_end-end : goal.returns-then-line_end-end
returns-then-line_end-end c =
    line-apart _ _ _ c.word_at-n.ensures _ c.loop-v.invariant c.loop-v-test.true
    (apart _ _ _ _ c.line_end-end.ensures c.line_end.ensures c.if-line_end-end.true)

pub loop-v-preserved : goal.loop-v-preserved
loop-v-preserved c =
    clear_more _ _ c.loop-v.invariant (together _ _ _ _ c.line_end-end.ensures c.line_end.ensures c.if-line_end-end.false)

pub returns : goal.returns
returns c = none_apart _ _ _ c.word_at-n.ensures (λ v l. c.loop-v.invariant v (omega arith))
