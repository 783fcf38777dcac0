-- `reading::put_token` meets its contract. Assumes nothing.
use native.Mathlib.Omega.{arith}
use Rattle.reading.proofs.Laws.{put-wide, put_narrow}
use Rattle.reading.proofs.put_token.Goals as goal

pub returns-then-word_at-eq2 : goal.returns-then-word_at-eq2
returns-then-word_at-eq2 c =
    let a = c.args in (
      put-wide a.value a.ticks a.job a.at a.room.now c.word_at.ensures c.if-word_at-eq2.true c.put_at.ensures c.put_at-2.ensures
          c.put_at-then-word_at-eq2.ensures,
      omega arith,
    )

pub returns : goal.returns
returns c =
    let a = c.args in (
      put_narrow a.value a.ticks a.job a.at a.room.now c.word_at.ensures c.if-word_at-eq2.false c.put_at.ensures c.put_at-2.ensures,
      omega arith,
    )
