-- `events_read::find` meets its contract. Assumes nothing.
use mathlib.Core.Path.{ap, ◌∙◌}
use native.Mathlib.Omega.{arith}
use Prim.Native.Nat.{◌≤◌}
use lib.ListN.{length}
use Rattle.events_read.proofs.Read.{few_lines, list_too_long, plan_too_long, plan_from_lem, put-long, put_is, finds}
use Rattle.events_read.proofs.find.Goals as goal

pub returns-then-list-gt-LONGEST_LIST : goal.returns-then-list-gt-LONGEST_LIST
returns-then-list-gt-LONGEST_LIST c = list_too_long c.args.book.now c.requires.0 _ c.if-list-gt-LONGEST_LIST.true

pub returns-then-words-gt-LONGEST_PLAN : goal.returns-then-words-gt-LONGEST_PLAN
returns-then-words-gt-LONGEST_PLAN c =
    let b = c.args.book.now in
    let w = c.args.list.now in
    let long = put-long c.put_plan-words.ensures.0 ∙ ap length (plan_from_lem b w _ c.word_at-n.ensures) in
    plan_too_long b c.requires.0 w (omega (arith, long, c.if-words-gt-LONGEST_PLAN.true))

pub put_plan-words-requires : goal.put_plan-words-requires
put_plan-words-requires c =
    (omega (arith, c.if-list-gt-LONGEST_LIST.false), few_lines c.args.book.now c.requires.0 _ c.word_at-n.ensures)

pub made-requires : goal.made-requires
made-requires c =
    let a = c.args in
    let fits : c.put_plan-words.result ≤ length a.plan.now = omega (arith, c.if-words-gt-LONGEST_PLAN.false, c.requires.1) in
    (c.requires.0, put_is c.put_plan-words.ensures.0 fits ∙ plan_from_lem a.book.now a.list.now _ c.word_at-n.ensures)

pub returns : goal.returns
returns c =
    let from = plan_from_lem c.args.book.now c.args.list.now _ c.word_at-n.ensures in
    let wrote = c.put_plan-words.ensures.0 in
    let few = c.if-words-gt-LONGEST_PLAN.false in
    rw c.then_some.ensures
    (finds _ _ _ _ _ c.made.ensures (put-long wrote ∙ ap length from) few (put_is wrote (omega (arith, few, c.requires.1)) ∙ from))
