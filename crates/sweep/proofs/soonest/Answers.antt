-- `sweep::soonest` meets its contract. Assumes nothing.
use mathlib.Core.Path.{◌≡◌, ◌∙◌}
use native.Mathlib.Omega.{arith}
use borrow.Author.Rules.{rules}
use lib.ListN.{take}
use Rattle.std.specs.List.{fold}
use Rattle.sweep.specs.Stands.{sooner}
use Rattle.sweep.proofs.Steps.{soonest-fold}
use Rattle.sweep.proofs.soonest.Goals as goal

pub returns : goal.returns
returns c =
    let e : c.fold.result ≡ fold sooner 0 (take c.args.n c.args.s.lines) = search rules in
    e ∙ soonest-fold c.args.s.lines c.args.n (omega arith)
