-- `order::all_order` meets its contract: its loop keeps the invariant, and leaves what is promised. Assumes nothing.
use mathlib.Core.Path.{sym, ◌∙◌}
use native.Mathlib.Omega.{arith}
use Rattle.order.proofs.Atoms.{all_such, one_other}
use Rattle.order.proofs.all_order.Goals as goal

pub returns-then-not-order_atom : goal.returns-then-not-order_atom
returns-then-not-order_atom c =
    one_other _ _ _ c.number_at-i-end.ensures.0 c.number_at-first.ensures.0 c.loop-i.i c.loop-i-test.true
    (sym c.order_atom.ensures ∙ c.if-not-order_atom.true)

pub returns : goal.returns
returns c = all_such _ _ _ c.number_at-i-end.ensures.0 c.number_at-first.ensures.0 (λ i l. c.loop-i.invariant i (omega arith))
