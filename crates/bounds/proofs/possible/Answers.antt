-- `bounds::possible` meets its contract. Assumes nothing.
use mathlib.Core.Path.{refl}
use Prim.Native.Nat.{◌≤◌, ◌<◌}
use borrow.Author.Rules.{rules}
use borrow.Author.Tests.{tests}
use Rattle.std.proofs.lemmas.Iterator.{cases_from_all, YieldsList-from_range}
use Rattle.bounds.specs.Bounds.{origin, entry}
use Rattle.bounds.proofs.Timing.{tested}
use Rattle.bounds.proofs.possible.Goals as goal

pub returns : goal.returns
returns c =
    let w = c.args.w.now in
    tested
    w
    _
    (cases_from_all
    _
    _
    _
    (λ k. entry w k k ≤ origin)
    (λ k. origin < entry w k k)
    c.all.ensures.ran
    (YieldsList-from_range 0 12 12 refl refl)
    (λ x q k. search (rules, tests))
    (λ x q k. search (rules, tests)))
