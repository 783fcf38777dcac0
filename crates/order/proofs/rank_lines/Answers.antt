-- `order::rank_lines` meets its contract: its loop keeps the invariant, and leaves what is promised. Assumes nothing.
use mathlib.Core.Path.{◌≡◌}
use native.Mathlib.Omega.{arith}
use Rattle.words.specs.Words.{word}
use Rattle.order.specs.Ranked.{rank_lines, ranked_plan}
use Rattle.order.proofs.Ranking.{rank_one}
use Rattle.order.proofs.rank_lines.Goals as goal

pub loop-v-init : goal.loop-v-init
unfolding rank_lines
loop-v-init c = c.requires.3

pub loop-v-preserved : goal.loop-v-preserved
loop-v-preserved c = rank_one _ _ _ _ c.loop-v.invariant c.rank_line.ensures

pub returns : goal.returns
unfolding ranked_plan
returns c = let e : c.loop-v.v ≡ word c.args.p.now 2 = omega arith in rw (← e) c.loop-v.invariant
