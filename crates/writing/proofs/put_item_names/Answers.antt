-- `writing::put_item_names` meets its contract: name by name, what is left is two words shorter. Assumes nothing.
use Prim.Native.Nat.{◌+◌, ◌*◌}
use native.Mathlib.Omega.{arith}
use Rattle.words.proofs.Write.{has_first}
use Rattle.writing.proofs.Left.{name_words_more, name_words_none, name_words_all}
use Rattle.writing.proofs.Writing.{to_start, to_go, to_done, to_room}
use Rattle.writing.proofs.put_item_names.Goals as goal

pub loop-i-init : goal.loop-i-init
loop-i-init c = to_start _ (name_words_all _ _ _ _ (omega arith) c.number_at-n.ensures.0)

pub put-requires : goal.put-requires
put-requires c =
    let first = c.number_at.result + 2 * c.number_at-2.result in
    let more = name_words_more c.args.s.now c.number_at-n.result c.loop-i.i first _ _ c.loop-i-test.true c.word_at-variable.ensures c.word_at-value.ensures in
    has_first _ _ (rw more at (to_room c.requires c.loop-i.invariant))

pub loop-i-preserved : goal.loop-i-preserved
loop-i-preserved c =
    to_go c.loop-i.invariant (name_words_more _ _ _ _ _ _ c.loop-i-test.true c.word_at-variable.ensures c.word_at-value.ensures) c.put.ensures

pub returns : goal.returns
returns c = to_done c.loop-i.invariant (name_words_none _ _ _ _ c.loop-i-test.false)
