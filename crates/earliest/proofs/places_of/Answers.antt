-- `earliest::places_of` meets its contract. Assumes nothing.
use Rattle.earliest.proofs.Owning.{places-read}
use Rattle.earliest.proofs.places_of.Goals as goal

pub returns : goal.returns
returns c =
    let a = c.args in
    places-read a.b.now a.a _ _ _ _ _ _ _
    c.number_at.ensures.0
    c.number_at-2.ensures.0
    c.number_at-4.ensures.0
    c.number_at-3.ensures.0
    c.number_at-names.ensures.0
    c.number_at-5.ensures.0
    c.number_at-atoms.ensures.0
