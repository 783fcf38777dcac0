-- `moments::line_at` meets its contract. Assumes nothing.
use native.Mathlib.Omega.{arith}
use Rattle.moments.proofs.Laws.{line-whole}
use Rattle.moments.proofs.line_at.Goals as goal

pub returns : goal.returns
returns c =
    let place = c.line_place-place.ensures in (
      line-whole _ _ _ c.word_at-left.ensures place.0 c.word_at-run.ensures,
      record { place = omega (arith, place.1) },
    )
