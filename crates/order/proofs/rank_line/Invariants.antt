-- `order::rank_line` meets its contract. The loop's invariant: what the line comes to is what the tokens left come to, the first of which starts at
-- `end`, with rank k (`Ranking`). Assumes nothing.
use Rattle.order.proofs.Ranking.{Ranking}
use Rattle.order.proofs.rank_line.Given as goal

abbrev pub invariant-loop-i : goal.invariant-loop-i
invariant-loop-i l = Ranking l.p l.times l.last l.v l.initial.room l.room l.first.place l.w l.first.left l.i l.end l.k
