-- The invariant of `layout::Tables::owner_from`: the number is in no range before k. Assumes nothing.
use Rattle.words.specs.Least.{Clear}
use Rattle.layout.specs.Layout.{reaches}
use Rattle.layout.proofs.Tables.owner_from.Given as goal

abbrev pub invariant-loop-k : goal.invariant-loop-k
invariant-loop-k l = Clear (reaches l.self.edition l.self.words.now l.t l.j l.i) l.k
