-- `lines::Position::step` meets its contract: each return's tests say which case of `step_of` it is. Assumes nothing.
use native.Mathlib.Omega.{arith}
use Rattle.lines.proofs.Steps.{no_line, no_token_lem, no_words, no_time, next-token}
use Rattle.lines.proofs.Position.step.Goals as goal

pub returns-then-lines-l : goal.returns-then-lines-l
returns-then-lines-l c =
    let a = c.args in
    no_line a.plan.now a.self (omega arith)

pub returns-then-tokens-k : goal.returns-then-tokens-k
returns-then-tokens-k c =
    let a = c.args in
    no_token_lem a.plan.now a.self (omega arith)

pub returns-then-plan-at : goal.returns-then-plan-at
returns-then-plan-at c =
    let a = c.args in
    no_words a.plan.now a.self _ _ (cc) (cc) c.if-plan-at.true

pub returns-in-None : goal.returns-in-None
returns-in-None c =
    let a = c.args in
    no_time a.plan.now a.self (cc)

pub returns-in-Some : goal.returns-in-Some
returns-in-Some c =
    let a = c.args in
    next-token a.plan.now a.self _ _ _ _ _ (cc) (cc) (omega arith) (omega arith) c.if-plan-at.false (cc) (cc) (cc)
