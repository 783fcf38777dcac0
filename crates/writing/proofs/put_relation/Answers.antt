-- `writing::put_relation` meets its contract: a relation's atoms are its comparisons, one behind the other. Assumes nothing.
use Rattle.words.proofs.Write.{has_first}
use Rattle.writing.proofs.Compare.{relation_is, compared_more, compared-none}
use Rattle.writing.proofs.Writing.{to_start, to_go, to_done, to_room}
use Rattle.writing.proofs.put_relation.Goals as goal

pub loop-code-init : goal.loop-code-init
loop-code-init c = to_start _ (relation_is _ _ _ c.requires.0)

pub put_comparison-requires : goal.put_comparison-requires
put_comparison-requires c =
    has_first _ _ (rw (compared_more _ _ _ _ c.requires.0 c.loop-code-test.true) at (to_room c.requires.1 c.loop-code.invariant))

pub loop-code-preserved : goal.loop-code-preserved
loop-code-preserved c = to_go c.loop-code.invariant (compared_more _ _ _ _ c.requires.0 c.loop-code-test.true) c.put_comparison.ensures

pub returns : goal.returns
returns c = to_done c.loop-code.invariant (compared-none _ _ _ _ c.requires.0 c.loop-code-test.false)
