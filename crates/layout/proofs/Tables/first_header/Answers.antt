-- `layout::Tables::first_header` meets its contract, by the invariant in Invariants.antt. Assumes nothing.
use borrow.Author.Rules.{rules}
use Rattle.words.proofs.Least.{scan, scan_all}
use Rattle.layout.proofs.Tables.first_header.Goals as goal

pub returns-then-header_wrong : goal.returns-then-header_wrong
returns-then-header_wrong c =
    search (rules, scan)

pub returns : goal.returns
returns c =
    search (rules, scan_all)
