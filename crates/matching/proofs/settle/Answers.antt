-- `matching::settle` meets its contract: no marks for more names than a choice has places, no choice where it has ended, or what raising found. Assumes nothing.
use mathlib.Core.Path.{refl, sym, ◌∙◌}
use Rattle.matching.proofs.Carrying.{bare_leads, marked_leads, keeping_none, keeping_set, raised_none, ended_none}
use Rattle.matching.proofs.settle.Goals as goal

pub returns-then-a-gt4 : goal.returns-then-a-gt4
returns-then-a-gt4 c = (bare_leads _ _ _ c.args.t _ _ refl, keeping_none _ _ _ c.args.t _ _ c.requires.3)

pub returns-then-has_ended : goal.returns-then-has_ended
returns-then-has_ended c =
    let k = c.requires.3 in
    (ended_none _ _ _ c.args.t _ (sym c.has_ended.ensures ∙ c.if-has_ended.true) k, keeping_none _ _ _ c.args.t _ _ k)

pub returns-in-Open : goal.returns-in-Open
returns-in-Open c =
    let f = c.raise_kept-found.ensures in
    (marked_leads _ _ _ c.args.t _ _ c.in-Open.ensures, keeping_set _ _ _ c.args.t _ _ _ _ c.keep.ensures f)

pub returns-in-NoneNow : goal.returns-in-NoneNow
returns-in-NoneNow c =
    let f = c.raise_kept-found.ensures in (
      raised_none _ _ _ c.args.t _ c.in-NoneNow.is f,
      keeping_set _ _ _ c.args.t _ _ _ _ c.keep.ensures f,
    )
