-- `reading::put_plan` meets its contract. Assumes nothing.
use native.Mathlib.Omega.{arith}
use Rattle.reading.proofs.Whole.{plan_wrote, read-long}
use Rattle.reading.proofs.put_plan.Goals as goal

pub overflow_cast-total : goal.overflow_cast-total
overflow_cast-total c =
    record { fits = omega (arith, c.put_lines-total.ensures.1, c.requires.1) }

pub put_heads-at-requires : goal.put_heads-at-requires
put_heads-at-requires c =
    (c.requires.0, c.requires.1, omega arith)

pub put_lines-requires : goal.put_lines-requires
put_lines-requires c =
    let long = read-long c.args.list.now c.args.n in
    (c.requires.0, c.requires.1, omega (arith, c.put_heads-at.ensures.next, long, c.requires.1))

pub returns : goal.returns
returns c =
    let w = c.args.list.now in
    let n = c.args.n in
    let sum = c.put_lines-total.ensures.0.next in
    let head = c.put_heads-at.ensures in
    let rest = c.put_lines.ensures in (
      plan_wrote w n c.word_at-edition.ensures sum c.put_at.ensures c.put_at-2.ensures c.put_at-3.ensures head rest.0,
      omega (arith, rest.1, head.next, read-long w n, c.requires.1),
    )
