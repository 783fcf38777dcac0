-- `book::first_value` meets its contract, by the invariant in Invariants.antt. Assumes nothing.
use mathlib.Core.Path.{refl}
use native.Mathlib.Omega.{arith}
use Rattle.words.proofs.Least.{clear_more, least_at, scan_all}
use Rattle.records.proofs.Words.{word_bad, word_good}
use Rattle.layout.proofs.Owner.{cursors}
use Rattle.book.proofs.first_value.Goals as goal

pub returns-then-value_word-lt3 : goal.returns-then-value_word-lt3
returns-then-value_word-lt3 c =
    (least_at _ _ _ c.loop-i.invariant.0 (omega arith) (word_bad _ _ _ _ c.value_word.ensures.0 refl c.if-value_word-lt3.true), omega arith)

pub loop-i-preserved : goal.loop-i-preserved
loop-i-preserved c =
    (clear_more _ _ c.loop-i.invariant.0 (word_good _ _ _ _ c.value_word.ensures.0 refl c.if-value_word-lt3.false), search cursors)

pub returns : goal.returns
returns c =
    (scan_all c.loop-i.invariant.0 c.loop-i.auto.i-end c.loop-i-test.false c.count_of-n.ensures.0, omega arith)
