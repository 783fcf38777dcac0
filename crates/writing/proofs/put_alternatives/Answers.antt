-- `writing::put_alternatives` meets its contract: item by item, what is left is one row shorter. Assumes nothing.
use mathlib.Core.Path.{refl}
use Prim.Native.Nat.{◌<◌}
use native.Mathlib.Omega.{arith}
use borrow.Author.Rules.{rules}
use lib.ListN.{length}
use Rattle.words.proofs.Write.{has_first}
use Rattle.writing.proofs.Left.{name_count_more, atom_count_more, rows_more, rows_none}
use Rattle.writing.proofs.Writing.{to_start, to_go, to_done, to_room}
use Rattle.writing.proofs.put_alternatives.Goals as goal

pub loop-item-init : goal.loop-item-init
loop-item-init c = (search rules, (search rules, to_start _ refl))

pub overflow_cast-k : goal.overflow_cast-k
overflow_cast-k c = omega (arith, atom_count_more c.args.s.now c.args.list.now c.loop-item.item-index (omega arith), c.count_atoms-k.ensures.0)

pub put-requires : goal.put-requires
put-requires c =
    let i : c.loop-item.item-index < length c.args.list.now = omega arith in
    has_first _ _ (rw (rows_more _ _ _ i _ _ _ _ c.count_names-n.ensures.0 c.count_atoms-k.ensures.0) at (to_room c.requires.has c.loop-item.invariant.1.1))

pub loop-item-preserved : goal.loop-item-preserved
loop-item-preserved c =
    let s = c.args.s.now in
    let list = c.args.list.now in
    let i = c.loop-item.item-index in
    let names = name_count_more s list i (omega arith) in
    let atoms = atom_count_more s list i (omega arith) in (
      omega (arith, c.count_names-n.ensures.0),
      (
        omega (arith, c.count_atoms-k.ensures.0),
        to_go c.loop-item.invariant.1.1 (rows_more _ _ _ (omega arith) _ _ _ _ c.count_names-n.ensures.0 c.count_atoms-k.ensures.0) c.put.ensures,
      ),
    )

pub returns : goal.returns
returns c = to_done c.loop-item.invariant.1.1 (rows_none _ _ _ (omega arith) _ _)
