-- The invariant of `writing::put_relation`: the atoms of the comparisons before this one are written, the others are left. Assumes nothing.
use lib.ListN.{drop}
use Rattle.writing.proofs.Writing.{GoingTo}
use Rattle.writing.specs.Compare.{relation_words}
use Rattle.writing.proofs.Compare.{compared_all}
use Rattle.writing.proofs.put_relation.Given as goal

abbrev pub invariant-loop-code : goal.invariant-loop-code
invariant-loop-code l = GoingTo l.fn.w (relation_words l.x l.l l.r) l.w (compared_all (drop l.code-index l.code-items) l.l l.r)
