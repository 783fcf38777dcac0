-- `moments::count_on` meets its contract. Assumes nothing.
use native.Mathlib.Omega.{arith}
use Rattle.moments.proofs.Laws.{count_none, count-first, count-apart, count-last, count_both}
use Rattle.moments.proofs.count_on.Goals as goal

pub returns-then-l-eq0 : goal.returns-then-l-eq0
returns-then-l-eq0 c =
    (λ p k. count_none p _ _ _ _ c.if-l-eq0.true, omega arith)

pub returns-then-first : goal.returns-then-first
returns-then-first c =
    (λ p k. count-first p _ _ _ _ c.if-l-eq0.false c.if-first.true, omega arith)

pub returns-then-l-m : goal.returns-then-l-m
returns-then-l-m c =
    (λ p k. count-apart p _ _ _ _ c.if-l-eq0.false c.if-first.false c.if-l-m.true, omega arith)

pub returns-then-l-eq1 : goal.returns-then-l-eq1
returns-then-l-eq1 c =
    (λ p k. count-last p _ _ _ _ c.if-first.false c.if-l-m.false c.if-l-eq1.true, omega arith)

pub returns : goal.returns
returns c =
    (λ p k. count_both p _ _ _ _ c.if-l-eq0.false c.if-first.false c.if-l-m.false c.if-l-eq1.false, omega arith)
