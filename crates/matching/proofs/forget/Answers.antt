-- `matching::forget` meets its contract: place by place, and past the last there is none. Assumes nothing.
use mathlib.Core.Path.{◌∙◌}
use native.Mathlib.Omega.{arith}
use borrow.Author.Rules.{rules}
use lib.ListN.{length-set}
use Rattle.std.specs.Prelude.{None}
use Rattle.matching.proofs.Fresh.{none_more, carried_bare}
use Rattle.matching.proofs.forget.Goals as goal

pub loop-i-init : goal.loop-i-init
loop-i-init c = (search rules, λ j l. absurd (omega arith))

pub loop-i-preserved : goal.loop-i-preserved
loop-i-preserved c =
    let k = c.loop-i.invariant in
    (length-set c.loop-i.kept c.loop-i.i None ∙ k.0, none_more _ c.loop-i.i (omega (arith, k.0, c.loop-i-test.true)) k.1)

pub returns : goal.returns
returns c =
    let k = c.loop-i.invariant in
    λ e b p t at. carried_bare e b p t _ at _ k.0 (λ j l h. k.1 j (omega arith))
