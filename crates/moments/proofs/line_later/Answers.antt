-- `moments::line_later` meets its contract. Assumes nothing.
use mathlib.Core.Path.{refl}
use Rattle.moments.proofs.Laws.{later-none, later-next, later_same}
use Rattle.moments.proofs.line_later.Goals as goal

pub returns-then-l-eq0 : goal.returns-then-l-eq0
returns-then-l-eq0 c =
    (later-none _ _ _ c.if-l-eq0.true, c.requires)

pub returns-then-l-m : goal.returns-then-l-m
returns-then-l-m c =
    (later-next _ _ _ c.if-l-eq0.false c.if-l-m.true _ c.next.ensures.0, c.next.ensures.1)

pub returns : goal.returns
returns c = (
  later_same _ _ _ c.if-l-eq0.false c.if-l-m.false _ refl refl c.saturating_sub.ensures,
  record { place = c.requires.place },
)
