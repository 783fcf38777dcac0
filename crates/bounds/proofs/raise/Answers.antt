-- `bounds::raise` meets its contract. Assumes nothing.
use Rattle.bounds.proofs.Raising.{raised_one, ready_small}
use Rattle.bounds.proofs.raise.Goals as goal

pub join-e-requires : goal.join-e-requires
join-e-requires c =
    let small = ready_small c.requires.0 in
    (small _, small _, small _)

pub returns : goal.returns
returns c =
    let p = c.requires in
    raised_one _ _ _ _ _ p.0 p.1 p.2 c.join-e.ensures
