-- The invariant of `book::first_fifth`: no record before i is wrong, no alternative before a has record i, and no
-- rule before r has alternative a. Assumes nothing.
use Rattle.words.specs.Least.{Clear}
use Rattle.records.specs.Wrong.{record_wrong}
use Rattle.layout.specs.Owner.{Cursor}
use Rattle.book.proofs.first_fifth.Given as goal

abbrev pub invariant-loop-i : goal.invariant-loop-i
invariant-loop-i l = Clear (record_wrong l.tables.edition l.tables.words.now 5) l.i × Cursor l.tables.edition l.tables.words.now 3 2 l.i l.a × Cursor l.tables.edition l.tables.words.now 2 2 l.a l.r
