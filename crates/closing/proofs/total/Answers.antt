-- `closing::total` meets its contract: the sum of a word of each. Assumes nothing.
use mathlib.Core.Path.{◌∙◌}
use native.Mathlib.Omega.{arith}
use borrow.Author.Rules.{rules}
use borrow.Author.Tests.{tests}
use Rattle.std.proofs.lemmas.Iterator.{YieldsList-from_slice, YieldsList-from_map}
use Rattle.std.proofs.lemmas.Iterator.Consumers.{sum_by_from_yields_List}
use Rattle.closing.specs.Left.{alt_word}
use Rattle.closing.proofs.Left.{total_sum, total_small}
use Rattle.closing.proofs.total.Goals as goal

pub returns : goal.returns
returns c =
    let s = c.args.s.now in
    let alts = c.args.alts.now in
    let j = c.args.j in
    let is =
    sum_by_from_yields_List (alt_word s j) alts _ _ c.sum.ensures.ran
    (YieldsList-from_map _ (alt_word s j) (YieldsList-from_slice alts (search rules)) c.map.ensures.closure (λ x r q k. search (rules, tests)))
    ∙ total_sum s j alts in
    (is, omega (arith, is, total_small s j (λ k. (c.type_inv.s k).fits) alts, c.requires.0))
