-- `writing::put_atoms` meets its contract: item by item, what is left is one run shorter. Assumes nothing.
use mathlib.Core.Path.{refl}
use Prim.Native.Nat.{◌<◌}
use native.Mathlib.Omega.{arith}
use lib.ListN.{length}
use Rattle.words.proofs.Write.{has_first}
use Rattle.writing.proofs.Left.{atoms_more, atoms-none}
use Rattle.writing.proofs.Writing.{to_start, to_go, to_done, to_room}
use Rattle.writing.proofs.put_atoms.Goals as goal

pub loop-item-init : goal.loop-item-init
loop-item-init c = to_start _ refl

pub put_item_atoms-requires : goal.put_item_atoms-requires
put_item_atoms-requires c =
    let i : c.loop-item.item-index < length c.args.list.now = omega arith in
    has_first _ _ (rw (atoms_more _ _ _ i) at (to_room c.requires c.loop-item.invariant))

pub loop-item-preserved : goal.loop-item-preserved
loop-item-preserved c = to_go c.loop-item.invariant (atoms_more _ _ _ (omega arith)) c.put_item_atoms.ensures

pub returns : goal.returns
returns c = to_done c.loop-item.invariant (atoms-none _ _ _ (omega arith))
