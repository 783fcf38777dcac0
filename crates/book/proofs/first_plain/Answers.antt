-- `book::first_plain` meets its contract, by the invariant in Invariants.antt. Assumes nothing.
use native.Mathlib.Omega.{arith}
use Rattle.words.proofs.Least.{clear_more, least_at, scan_all}
use Rattle.records.proofs.Words.{word_bad, word_good}
use Rattle.book.proofs.first_plain.Goals as goal

pub returns-then-plain_word-w : goal.returns-then-plain_word-w
returns-then-plain_word-w c =
    (least_at _ _ _ c.loop-i.invariant (omega arith) (word_bad _ _ _ _ c.plain_word.ensures.0 c.width_of-w.ensures.0 c.if-plain_word-w.true), omega arith)

pub loop-i-preserved : goal.loop-i-preserved
loop-i-preserved c =
    clear_more _ _ c.loop-i.invariant (word_good _ _ _ _ c.plain_word.ensures.0 c.width_of-w.ensures.0 c.if-plain_word-w.false)

pub returns : goal.returns
returns c =
    (scan_all c.loop-i.invariant c.loop-i.auto.i-end c.loop-i-test.false c.count_of-n.ensures.0, omega arith)
