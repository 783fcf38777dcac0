-- `writing::put_item_atoms` meets its contract: constraint by constraint, what is left is one run shorter. Assumes nothing.
use mathlib.Core.Path.{refl}
use native.Mathlib.Omega.{arith}
use Rattle.words.proofs.Write.{has_first}
use Rattle.writing.proofs.Left.{atom_words_more, atom_words_none, atom_words_all}
use Rattle.writing.proofs.Writing.{to_start, to_go, to_done, to_room}
use Rattle.writing.proofs.put_item_atoms.Goals as goal

pub loop-i-init : goal.loop-i-init
loop-i-init c = to_start _ (atom_words_all _ _ _ _ _ (omega arith) c.number_at-k.ensures.0 refl)

pub put_relation-requires : goal.put_relation-requires
put_relation-requires c =
    (omega arith, has_first _ _ (rw (atom_words_more _ _ _ _ _ _ _ c.loop-i-test.true c.word_at-l.ensures c.word_at-r.ensures) at (to_room c.requires c.loop-i.invariant)))

pub loop-i-preserved : goal.loop-i-preserved
loop-i-preserved c =
    to_go c.loop-i.invariant (atom_words_more _ _ _ _ _ _ _ c.loop-i-test.true c.word_at-l.ensures c.word_at-r.ensures) c.put_relation.ensures

pub returns : goal.returns
returns c = to_done c.loop-i.invariant (atom_words_none _ _ _ _ _ c.loop-i-test.false)
