-- `closing::put_alternatives` meets its contract, by the invariant in Invariants.antt. Assumes nothing.
use mathlib.Core.Path.{refl}
use native.Mathlib.Omega.{arith}
use Rattle.words.proofs.Write.{has_first}
use Rattle.closing.proofs.Left.{total_more, rows_more, rows_none}
use Rattle.writing.proofs.Writing.{to_go, to_done, to_room}
use Rattle.closing.proofs.put_alternatives.Goals as goal

pub put-requires : goal.put-requires
put-requires c =
    let n = c.alt_word-n.ensures.0 in
    let m = c.alt_word-m.ensures.0 in
    has_first
    _
    _
    (rw (rows_more c.args.s.now c.args.alts.now _ c.loop-a-test.true _ refl _ _ _ _ n m) at (to_room c.requires.has c.loop-a.invariant.2))

pub loop-a-preserved : goal.loop-a-preserved
loop-a-preserved c =
    let s = c.args.s.now in
    let alts = c.args.alts.now in
    let i = c.loop-a-test.true in
    let n = c.alt_word-n.ensures.0 in
    let m = c.alt_word-m.ensures.0 in
    let names = total_more s alts _ i _ refl 1 _ n in
    let atoms = total_more s alts _ i _ refl 3 _ m in
    (omega arith, omega arith, to_go c.loop-a.invariant.2 (rows_more s alts _ i _ refl _ _ _ _ n m) c.put.ensures)

pub returns : goal.returns
returns c = to_done c.loop-a.invariant.2 (rows_none _ _ _ (omega arith) _ _)
