-- `closing::list_alternatives` meets its contract, by the invariant in Invariants.antt. Assumes nothing.
use mathlib.Core.Path.{refl}
use native.Mathlib.Omega.{arith}
use Rattle.words.proofs.Write.{has_first}
use Rattle.closing.proofs.Left.{alts_more, alts_range, alts_none}
use Rattle.writing.proofs.Writing.{to_start, to_go, to_done, to_room}
use Rattle.closing.proofs.list_alternatives.Goals as goal

pub loop-x-init : goal.loop-x-init
loop-x-init c = to_start _ refl

pub put_numbers-requires : goal.put_numbers-requires
put_numbers-requires c =
    let s = c.args.s.now in
    let left = c.args.left.now in
    let i = c.loop-x-test.true in
    let base = c.number_at-base.ensures.0 in
    let k = c.number_at-in-loop-x.ensures.0 in
    let n = c.number_at.ensures.0 in (
      alts_range s left _ i _ _ _ _ base refl k n c.requires.0,
      has_first _ _ (rw (alts_more s left _ i _ _ _ _ base refl k n) at (to_room c.requires.1 c.loop-x.invariant)),
    )

pub loop-x-preserved : goal.loop-x-preserved
loop-x-preserved c =
    let base = c.number_at-base.ensures.0 in
    let k = c.number_at-in-loop-x.ensures.0 in
    let n = c.number_at.ensures.0 in
    to_go c.loop-x.invariant (alts_more c.args.s.now c.args.left.now _ c.loop-x-test.true _ _ _ _ base refl k n) c.put_numbers.ensures

pub returns : goal.returns
returns c = to_done c.loop-x.invariant (alts_none _ _ _ (omega arith))
