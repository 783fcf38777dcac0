-- `moments::next` meets its contract. Assumes nothing.
use mathlib.Core.Path.{refl, ap}
use native.Mathlib.Omega.{arith}
use Prim.Native.Nat.{◌+◌}
use Rattle.moments.proofs.Laws.{behind-none, behind-some}
use Rattle.moments.proofs.next.Goals as goal

pub returns-then-l-eq0 : goal.returns-then-l-eq0
returns-then-l-eq0 c = (behind-none _ _ c.if-l-eq0.true, c.requires)

pub returns : goal.returns
returns c =
    let some = c.if-l-eq0.false in
    let width = c.token_width-width.ensures in (
      behind-some _ _ some _ refl (ap (λ w. c.args.l.place + w) width.0) c.word_at-run.ensures,
      record { place = omega (arith, width.2, c.requires.place, some) },
    )
