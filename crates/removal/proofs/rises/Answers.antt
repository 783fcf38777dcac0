-- `removal::rises` meets its contract. Assumes nothing.
use mathlib.Core.Path.{◌≡◌}
use Prim.Native.Nat.{◌≤◌, ◌<◌}
use borrow.Author.Rules.{rules}
use borrow.Author.Tests.{tests}
use Rattle.std.proofs.lemmas.Fn.{always_returns_same}
use Rattle.std.proofs.lemmas.Iterator.{cases_from_all, YieldsList-from_slice}
use Rattle.removal.proofs.Rising.{ordered, in-order, out-of-order}
use Rattle.removal.proofs.rises.Goals as goal

pub returns-then-is_sorted_by : goal.returns-then-is_sorted_by
returns-then-is_sorted_by c =
    let n = c.args.n in
    in-order
    n
    c.args.list.now
    _
    _
    (c.is_sorted_by.ensures.cases (ordered n) (always_returns_same _ (λ a r. r ≡ ordered n a.0.now a.1.0.now) _ (λ a r g h. (search (rules, tests), search (rules, tests)))))
    c.if-is_sorted_by.true
    (cases_from_all _ _ _ (λ x. x < n) (λ x. n ≤ x) c.all.ensures.ran (YieldsList-from_slice c.args.list.now c.iter.ensures.rest) (λ x q k. search (rules, tests)) (λ x q k. search (rules, tests)))

pub returns-else-is_sorted_by : goal.returns-else-is_sorted_by
returns-else-is_sorted_by c =
    let n = c.args.n in
    out-of-order
    _
    _
    _
    (c.is_sorted_by.ensures.cases (ordered n) (always_returns_same _ (λ a r. r ≡ ordered n a.0.now a.1.0.now) _ (λ a r g h. (search (rules, tests), search (rules, tests)))))
    c.if-is_sorted_by.false
