-- `writing::limit` meets its contract, by the two cases of `upper`. Assumes nothing.
use mathlib.Core.Path.{sym}
use Rattle.writing.proofs.Compare.{upper-none}
use Rattle.writing.proofs.limit.Goals as goal

pub returns-else-strict-eq0 : goal.returns-else-strict-eq0
returns-else-strict-eq0 c = sym (upper-none _ c.if-strict-eq0.false)
