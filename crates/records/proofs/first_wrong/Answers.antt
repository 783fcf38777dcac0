-- `records::first_wrong` meets its contract: `first` is what the library's `position` gives, and the length where it gives none. Assumes nothing.
use mathlib.Core.Path.{◌≡◌, ◌∙◌}
use borrow.Author.Rules.{rules}
use Rattle.std.proofs.Common.{tests}
use Rattle.std.proofs.lemmas.Iterator.{YieldsList-from_slice}
use Rattle.std.proofs.lemmas.Iterator.Search.{position_from_yields_List}
use Rattle.std.specs.List.{position}
use Rattle.words.specs.Least.{first}
use Rattle.words.proofs.Least.{first_le, first_position}
use Rattle.records.proofs.first_wrong.Goals as goal

pub returns : goal.returns
returns c =
    let at : c.position.result ≡ position (λ w. w) c.args.tests.now =
    position_from_yields_List (λ w. w) _ _ _ c.position.ensures.ran (YieldsList-from_slice _ c.iter.ensures.rest) (λ x b q h. search (rules, tests)) in
    let is : c.unwrap_or.result ≡ first (λ w. w) c.args.tests.now = c.unwrap_or.ensures ∙ rw at (first_position _ _) in
    (is, rw is (first_le _ _))
