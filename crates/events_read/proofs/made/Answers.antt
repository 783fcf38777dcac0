-- `events_read::made` meets its contract. Assumes nothing.
use mathlib.Core.Path.{sym, ap, ◌∙◌}
use Rattle.plan.specs.Fault.{plan_fault}
use Rattle.events_read.proofs.Read.{refused_is, done_is, ready_plan, made-not, made-is}
use Rattle.events_read.proofs.made.Goals as goal

pub returns-then-is_err : goal.returns-then-is_err
returns-then-is_err c =
    let b = c.args.book.now in
    made-not b c.requires.0 _
    (refused_is _ _ (c.check.ensures ∙ ap (plan_fault b) c.requires.1) (sym c.is_err.ensures.value ∙ c.if-is_err.true))

pub size_of-size-requires : goal.size_of-size-requires
size_of-size-requires c =
    let pass = done_is _ _ c.check.ensures (sym c.is_err.ensures.value ∙ c.if-is_err.false) in
    ready_plan c.args.book.now c.requires.0 _ _ pass c.word_at-n.ensures

pub send_list-sent-requires : goal.send_list-sent-requires
send_list-sent-requires c =
    let a = c.args in
    let pass = done_is _ _ c.check.ensures (sym c.is_err.ensures.value ∙ c.if-is_err.false) in
    let q = c.size_of-size.ensures in
    (ready_plan a.book.now c.requires.0 _ _ pass c.word_at-n.ensures, q.0, q.1, q.2)

pub returns : goal.returns
returns c =
    let pass = done_is _ _ c.check.ensures (sym c.is_err.ensures.value ∙ c.if-is_err.false) in
    made-is c.args.book.now c.requires.0 _ _ c.requires.1 pass c.send_list-sent.ensures
