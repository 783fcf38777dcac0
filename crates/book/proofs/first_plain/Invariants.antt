-- The invariant of `book::first_plain`: no record before i is wrong. Assumes nothing.
use Rattle.words.specs.Least.{Clear}
use Rattle.records.specs.Wrong.{record_wrong}
use Rattle.book.proofs.first_plain.Given as goal

abbrev pub invariant-loop-i : goal.invariant-loop-i
invariant-loop-i l = Clear (record_wrong l.tables.edition l.tables.words.now l.t) l.i
