-- `bounds::earliest` meets its contract. Assumes nothing.
use Rattle.bounds.proofs.Timing.{fit, whole, nothing}
use Rattle.bounds.proofs.earliest.Goals as goal

pub put_times-requires : goal.put_times-requires
put_times-requires c =
    let p = c.requires in
    (fit c.close.ensures p.3 c.possible.ensures c.if-possible.true, p.1)

pub returns-then-possible : goal.returns-then-possible
returns-then-possible c = whole _ _ c.close.ensures c.put_times.ensures

pub returns : goal.returns
returns c = nothing _ c.close.ensures (c.possible.ensures.bent c.if-possible.false)
