-- `earliest::Table::new` meets its contract: bounds of 0 from time 0, and no others. Assumes nothing.
use mathlib.Core.Path.{refl}
use lib.ListN.{replicate}
use Rattle.earliest.proofs.Filling.{blank}
use Rattle.earliest.proofs.Table.new.Goals as goal

pub invariant_of-result : goal.invariant_of-result
invariant_of-result c = record { is_open = (blank (replicate 144 0) refl refl (c.fill.ensures.after (λ y e. e))).fresh }

pub returns : goal.returns
returns c = blank (replicate 144 0) refl refl (c.fill.ensures.after (λ y e. e))
