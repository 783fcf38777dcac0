-- `listed::size_of` meets its contract. Assumes nothing.
use native.Mathlib.Omega.{arith}
use Rattle.listed.proofs.Laws.{list_long}
use Rattle.listed.proofs.size_of.Goals as goal

pub returns : goal.returns
returns c =
    let q = c.send_events-events.ensures in (
      record { words = q.0.words.place; events = q.1 },
      omega (arith, q.0.words.place, list_long c.args.plan.now, c.requires.long),
      q.2,
    )
