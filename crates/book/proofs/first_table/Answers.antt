-- `book::first_table` meets its contract, by the invariant in Invariants.antt. Assumes nothing.
use borrow.Author.Rules.{rules}
use native.Mathlib.Omega.{arith}
use Rattle.words.proofs.Least.{least_at, scan_all}
use Rattle.book.proofs.first_table.Goals as goal

pub returns-then-table_wrong : goal.returns-then-table_wrong
returns-then-table_wrong c =
    least_at _ _ _ c.loop-t.invariant (omega arith) (cc)

pub returns : goal.returns
returns c =
    search (rules, scan_all)
