-- `earliest::term_of` meets its contract: each kind has its time. Assumes nothing.
use native.Mathlib.Omega.{arith}
use Rattle.earliest.proofs.Filling.{is_point, is-end, is-token}
use Rattle.earliest.proofs.term_of.Goals as goal

pub returns-in-2 : goal.returns-in-2
returns-in-2 c = is_point _ _ c.in-2.is (c.requires.point c.in-2.is)

pub returns-in-3 : goal.returns-in-3
returns-in-3 c = is-end _ _ c.in-3.is

pub returns-in_default : goal.returns-in_default
returns-in_default c =
    let p = c.requires in
    let k = p.kinds in
    is-token _ _ (omega arith) (p.token (omega arith))
