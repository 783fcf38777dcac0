-- The invariant of `verdict::survey_line`: what the line comes to is what its passed tokens and the rest come to, and no sum wraps.
-- Assumes nothing.
use mathlib.Core.Path.{◌≡◌}
use Prim.Native.Nat.{ℕ, ◌+◌, ◌*◌, ◌≤◌}
use Rattle.layout.specs.Layout.{offset}
use Rattle.lines.specs.declared.Token.{Token}
use Rattle.lines.specs.Lines.{token, token_width}
use Rattle.matching.specs.Carried.{Carried}
use Rattle.verdict.proofs.Steps.{RuleWords, OnLine}
use Rattle.verdict.proofs.survey_line.Given as goal

-- nothing is at `start` yet: each token that comes is later
abbrev pub from : ℕ → Token
from start = token 0 start start 0

abbrev pub invariant-loop-token : goal.invariant-loop-token
invariant-loop-token l =
    RuleWords l.b l.place l.value l.first l.n × OnLine l.e l.b l.p l.place l.count l.at l.start l.token l.seen × Carried l.e l.b l.p (from l.start) l.n (offset l.b 3 + 4 * l.first) l.kept
    × (l.width ≡ token_width l.p) × (l.width ≤ 3)
