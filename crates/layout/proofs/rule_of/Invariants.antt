-- The invariant of `layout::rule_of`: the alternative is in no rule's range before r. Assumes nothing.
use Rattle.words.specs.Least.{Clear}
use Rattle.layout.specs.Layout.{reaches}
use Rattle.layout.proofs.rule_of.Given as goal

abbrev pub invariant-loop-r : goal.invariant-loop-r
invariant-loop-r l = Clear (reaches l.e l.b 2 2 l.a) l.r
