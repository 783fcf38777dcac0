-- `writing::put_comparison` meets its contract: no comparison, or the six words of its atom. Assumes nothing.
use mathlib.Core.Path.{ap}
use native.Mathlib.Omega.{arith}
use lib.ListN.{length}
use Rattle.writing.proofs.Compare.{compared-some}
use Rattle.writing.proofs.Writing.{to_none}
use Rattle.writing.proofs.put_comparison.Goals as goal

pub returns-then-code-eq0 : goal.returns-then-code-eq0
returns-then-code-eq0 c = rw c.if-code-eq0.true (to_none _)

pub put-requires : goal.put-requires
put-requires c =
    let s = c.args in
    omega (arith, ap length (compared-some s.code s.l s.r c.if-code-eq0.false))

pub returns : goal.returns
returns c = rw (compared-some _ _ _ c.if-code-eq0.false, ← c.token-a.ensures, ← c.token-b.ensures, ← c.limit-u.ensures) c.put.ensures
