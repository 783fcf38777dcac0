-- `closing::put_parts` meets its contract, by the invariant in Invariants.antt. Assumes nothing.
use mathlib.Core.Path.{refl}
use native.Mathlib.Omega.{arith}
use borrow.Author.Rules.{rules}
use Rattle.words.proofs.Write.{has_first}
use Rattle.closing.proofs.Left.{record_words, parts_more, parts_none}
use Rattle.writing.proofs.Writing.{to_go, to_done, to_room}
use Rattle.closing.proofs.put_parts.Goals as goal

pub overflow_mul-from : goal.overflow_mul-from
overflow_mul-from c =
    let h = record_words c.args.size _ c.requires.1 c.alt_word.ensures.1 in
    search rules

pub overflow_add-from : goal.overflow_add-from
overflow_add-from c =
    let h = record_words c.args.size _ c.requires.1 c.alt_word.ensures.1 in
    search rules

pub overflow_mul-n : goal.overflow_mul-n
overflow_mul-n c =
    let h = record_words c.args.size _ c.requires.1 c.alt_word-in-loop-a.ensures.1 in
    search rules

pub put_run-requires : goal.put_run-requires
put_run-requires c =
    let more = parts_more c.args.s.now c.args.alts.now _ c.loop-a-test.true _ refl c.args.j c.args.size c.args.o _ _ c.alt_word.ensures.0 c.alt_word-in-loop-a.ensures.0 in
    let from = record_words c.args.size _ c.requires.1 c.alt_word.ensures.1 in
    let size = record_words c.args.size _ c.requires.1 c.alt_word-in-loop-a.ensures.1 in
    (omega (arith, c.requires.2), has_first _ _ (rw more at (to_room c.requires.3 c.loop-a.invariant)))

pub loop-a-preserved : goal.loop-a-preserved
loop-a-preserved c =
    let more = parts_more c.args.s.now c.args.alts.now _ c.loop-a-test.true _ refl c.args.j c.args.size c.args.o _ _ c.alt_word.ensures.0 c.alt_word-in-loop-a.ensures.0 in
    to_go c.loop-a.invariant more c.put_run.ensures

pub returns : goal.returns
returns c = to_done c.loop-a.invariant (parts_none _ _ _ (omega arith) _ _ _)
