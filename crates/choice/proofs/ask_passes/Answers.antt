-- `choice::ask_passes` meets its contract: with all names placed, with those that the ask names, or before that. Assumes nothing.
use mathlib.Core.Path.{sym, ◌∙◌}
use mathlib.Core.Bool.{true}
use native.Mathlib.Omega.{arith}
use borrow.Author.Tests.{ltb-true}
use Rattle.std.proofs.lemmas.Bool.{not-true, not-false}
use Rattle.choice.proofs.SoFar.{passes-last, passes_placed, passes_yet}
use Rattle.choice.proofs.ask_passes.Goals as goal
use Rattle.choice.proofs.ask_passes.Goals.{then-j-a, else-j-a}

pub returns-then-untested : goal.returns-then-untested
returns-then-untested c =
    elim c.if-j-a.branch [
      | then-j-a w ↦ c.if-untested.true ∙ passes_yet _ _ _ _ _ true _ w.if-j-a.true w.ask_placed.ensures (not-true _ (sym w.untested-is ∙ c.if-untested.true))
      | else-j-a w ↦ absurd (omega (arith, ltb-true _ _ (sym w.untested-is ∙ c.if-untested.true)))
    ]

pub returns-else-untested : goal.returns-else-untested
returns-else-untested c =
    elim c.if-j-a.branch [
      | then-j-a w ↦ passes_placed _ _ _ _ _ _ _ w.ask_placed.ensures (not-false _ (sym w.untested-is ∙ c.if-untested.false)) c.ask_holds.ensures
      | else-j-a w ↦ passes-last _ _ _ _ _ _ w.if-j-a.false c.ask_holds.ensures
    ]
