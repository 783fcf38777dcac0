-- `closing::put_rules` meets its contract, by the invariant in Invariants.antt. Assumes nothing.
use mathlib.Core.Path.{refl}
use native.Mathlib.Omega.{arith}
use Rattle.words.proofs.Write.{has_first}
use Rattle.closing.proofs.Left.{rules_more, rules_add, rules_none}
use Rattle.writing.proofs.Writing.{to_go, to_done, to_room}
use Rattle.closing.proofs.put_rules.Goals as goal

pub put-requires : goal.put-requires
put-requires c =
    let base = c.number_at-base.ensures.0 in
    let v = c.word_at.ensures in
    let y = c.word_at-in-loop-x.ensures in
    let n = c.word_at-n.ensures in
    has_first
    _
    _
    (rw (rules_more c.args.s.now c.args.left.now _ c.loop-x-test.true _ _ _ _ _ base refl v y n _) at (to_room c.requires.1 c.loop-x.invariant.1))

pub overflow_add-k : goal.overflow_add-k
overflow_add-k c =
    let base = c.number_at-base.ensures.0 in
    let v = c.word_at.ensures in
    let y = c.word_at-in-loop-x.ensures in
    let n = c.word_at-n.ensures in
    let add = rules_add c.args.s.now c.args.left.now _ c.loop-x-test.true _ _ _ _ _ base refl v y n in
    omega (arith, c.requires.0)

pub loop-x-preserved : goal.loop-x-preserved
loop-x-preserved c =
    let s = c.args.s.now in
    let left = c.args.left.now in
    let i = c.loop-x-test.true in
    let base = c.number_at-base.ensures.0 in
    let v = c.word_at.ensures in
    let y = c.word_at-in-loop-x.ensures in
    let n = c.word_at-n.ensures in
    let add = rules_add s left _ i _ _ _ _ _ base refl v y n in
    (omega arith, to_go c.loop-x.invariant.1 (rules_more s left _ i _ _ _ _ _ base refl v y n _) c.put.ensures)

pub returns : goal.returns
returns c = to_done c.loop-x.invariant.1 (rules_none _ _ _ (omega arith) _)
