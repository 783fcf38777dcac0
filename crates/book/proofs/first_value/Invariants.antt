-- The invariant of `book::first_value`: no value before i is wrong, and no variable before v has value i.
-- Assumes nothing.
use Rattle.words.specs.Least.{Clear}
use Rattle.records.specs.Wrong.{record_wrong}
use Rattle.layout.specs.Owner.{Cursor}
use Rattle.book.proofs.first_value.Given as goal

abbrev pub invariant-loop-i : goal.invariant-loop-i
invariant-loop-i l = Clear (record_wrong l.tables.edition l.tables.words.now 1) l.i × Cursor l.tables.edition l.tables.words.now 0 0 l.i l.v
