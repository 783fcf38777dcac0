-- `lines::line_end` meets its contract, by the invariant in Invariants.antt. Assumes nothing.
use mathlib.Core.Path.{◌≡◌, refl}
use native.Mathlib.Omega.{arith}
use Rattle.lines.specs.Lines.{start_of}
use Rattle.lines.proofs.Ends.{line_ends, one_more}
use Rattle.lines.proofs.line_end.Goals as goal

pub loop-j-init : goal.loop-j-init
unfolding start_of
loop-j-init c = (refl, omega arith)

pub loop-j-preserved : goal.loop-j-preserved
loop-j-preserved c = let more = one_more c.args.plan.now c.args.v c.loop-j.j in (cc, omega arith)

pub returns : goal.returns
returns c =
    let all : c.loop-j.j ≡ c.number_at-tokens.result = omega arith in
    let end = line_ends c.args.plan.now c.args.v in
    cc
