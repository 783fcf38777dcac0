-- `writing::count_all` meets its contract: item by item, those that are left are one fewer. Assumes nothing.
use native.Mathlib.Omega.{arith}
use Rattle.writing.proofs.Left.{name_count_more, atom_count_more, name_count_none, atom_count_none}
use Rattle.writing.proofs.count_all.Goals as goal

pub loop-item-preserved : goal.loop-item-preserved
loop-item-preserved c =
    let s = c.args.s.now in
    let list = c.args.list.now in
    let i = c.loop-item.item-index in
    let names = name_count_more s list i (omega arith) in
    let atoms = atom_count_more s list i (omega arith) in
    (omega arith, (omega arith, (omega (arith, c.count_names-names.ensures.0), omega (arith, c.count_atoms-atoms.ensures.0))))

pub returns : goal.returns
returns c =
    let s = c.args.s.now in
    let list = c.args.list.now in
    let i = c.loop-item.item-index in record {
      names_value = (omega (arith, name_count_none s list i (omega arith)), omega (arith, atom_count_none s list i (omega arith)));
      names_bound = (omega arith, omega arith);
    }
