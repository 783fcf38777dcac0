-- `lines::check` meets its contract: each return's tests say which stage of the fault table it is. Assumes nothing.
use mathlib.Core.Path.{sym, ◌∙◌}
use native.Mathlib.Omega.{arith}
use Rattle.lines.proofs.Stages.{fault-length, fault-head, fault-end, no_fault_lem}
use Rattle.lines.proofs.check.Goals as goal

pub returns-then-length-start : goal.returns-then-length-start
returns-then-length-start c = fault-length _ _ _ (omega arith) c.if-length-start.true

pub returns-then-head_wrong : goal.returns-then-head_wrong
returns-then-head_wrong c =
    fault-head _ _ _ (omega arith) c.if-length-start.false _ c.loop-k.invariant c.loop-k-test.true (sym c.head_wrong.ensures ∙ c.if-head_wrong.true)

pub returns-then-start-words_of : goal.returns-then-start-words_of
returns-then-start-words_of c =
    fault-end _ _ _ (omega arith) c.if-length-start.false (λ k l. c.loop-k.invariant k (omega arith)) _ (cc) c.if-start-words_of.true

pub returns : goal.returns
returns c =
    no_fault_lem _ _ _ (omega arith) c.if-length-start.false (λ k l. c.loop-k.invariant k (omega arith)) _ (cc) c.if-start-words_of.false
