-- `earliest::Table::put_bound` meets its contract: the bound is put, or a higher one is there. Assumes nothing.
use Rattle.earliest.proofs.Filling.{bound_raised}
use Rattle.earliest.proofs.Table.put_bound.Goals as goal

pub invariant_of-self : goal.invariant_of-self
invariant_of-self c =
    let p = c.requires in
    record { is_open = (bound_raised _ _ _ _ _ c.max.ensures c.args.self.now.is_open p.0 p.1 p.2).fresh }

pub returns : goal.returns
returns c = let p = c.requires in bound_raised _ _ _ _ _ c.max.ensures c.args.self.now.is_open p.0 p.1 p.2
