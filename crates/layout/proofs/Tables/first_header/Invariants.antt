-- The invariant of `layout::Tables::first_header`: no header word before k is wrong. Assumes nothing.
use Rattle.words.specs.Least.{Clear}
use Rattle.layout.specs.Layout.{header_wrong}
use Rattle.layout.proofs.Tables.first_header.Given as goal

abbrev pub invariant-loop-k : goal.invariant-loop-k
invariant-loop-k l = Clear (header_wrong l.self.edition l.self.words.now) l.k
