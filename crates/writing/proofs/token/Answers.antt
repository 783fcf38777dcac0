-- `writing::token` meets its contract, by the two cases of `side`. Assumes nothing.
use mathlib.Core.Path.{sym}
use Rattle.writing.proofs.Compare.{side_left, side_right}
use Rattle.writing.proofs.token.Goals as goal

pub returns-then-which-eq0 : goal.returns-then-which-eq0
returns-then-which-eq0 c = sym (side_left _ _ _ c.if-which-eq0.true)

pub returns-else-which-eq0 : goal.returns-else-which-eq0
returns-else-which-eq0 c = sym (side_right _ _ _ c.if-which-eq0.false)
