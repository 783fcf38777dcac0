-- The invariant of `book::first_table`: every table before t is good. Assumes nothing.
use Rattle.words.specs.Least.{Clear}
use Rattle.book.specs.Fault.{table_wrong}
use Rattle.book.proofs.first_table.Given as goal

abbrev pub invariant-loop-t : goal.invariant-loop-t
invariant-loop-t l = Clear (table_wrong l.tables.edition l.tables.words.now) l.t
