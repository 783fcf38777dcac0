-- `book::first_fifth` meets its contract, by the invariant in Invariants.antt. Assumes nothing.
use native.Mathlib.Omega.{arith}
use borrow.Author.Rules.{rules}
use Rattle.words.proofs.Least.{clear_more, least_at, scan_all}
use Rattle.records.proofs.Words.{word_bad, word_good}
use Rattle.layout.proofs.Owner.{cursors}
use Rattle.book.proofs.first_fifth.Goals as goal

pub owner_from-r-requires : goal.owner_from-r-requires
owner_from-r-requires c =
    search (rules, cursors)

pub returns-then-fifth_word-w : goal.returns-then-fifth_word-w
returns-then-fifth_word-w c =
    (least_at _ _ _ c.loop-i.invariant.0 (omega arith) (word_bad _ _ _ _ c.fifth_word.ensures.0 c.fifth_width-w.ensures.0 c.if-fifth_word-w.true), omega arith)

pub loop-i-preserved : goal.loop-i-preserved
loop-i-preserved c =
    (clear_more _ _ c.loop-i.invariant.0 (word_good _ _ _ _ c.fifth_word.ensures.0 c.fifth_width-w.ensures.0 c.if-fifth_word-w.false), search cursors, search cursors)

pub returns : goal.returns
returns c =
    (scan_all c.loop-i.invariant.0 c.loop-i.auto.i-end c.loop-i-test.false c.count_of-n.ensures.0, omega arith)
