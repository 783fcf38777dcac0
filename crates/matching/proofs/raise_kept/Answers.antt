-- `matching::raise_kept` meets its contract: kept marks for a later trigger token, or new ones. Assumes nothing.
use native.Mathlib.Omega.{arith}
use Rattle.marks.specs.Marked.{Started}
use Rattle.matching.proofs.Carrying.{started_as, started_kept, started_marks}
use Rattle.matching.proofs.raise_kept.Goals as goal
use Rattle.matching.proofs.raise_kept.Goals.{in-None, in-Some}

pub raise-requires : goal.raise-requires
raise-requires c =
    let a = c.args in
    let started : Started a.b.now a.p.now a.a a.t c.match-kept.started =
    elim c.match-kept.branch [
      | in-None w ↦ started_as _ _ _ a.t _ _ w.started-is w.start_marks-started.ensures
      | in-Some w ↦ started_as _ _ _ a.t _ _ w.started-is (started_kept _ _ _ a.t _ _ _ w.in-Some.is c.requires.4 w.handed_on-started.ensures)
    ] in
    (omega (arith, c.requires.2, c.requires.3), c.requires.1, started_marks _ _ _ a.t _ _ c.in-Some-started.is started)
