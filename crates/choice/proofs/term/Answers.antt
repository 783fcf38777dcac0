-- `choice::term` meets its contract: a time point, the plan's end, or the time of a token. Assumes nothing.
use borrow.Author.Tests.{eq-eqb, ne_eqb}
use native.Mathlib.Omega.{arith}
use Rattle.choice.specs.Met.{end_time, time_of}
use Rattle.choice.proofs.term.Goals as goal

pub returns-in-2 : goal.returns-in-2
unfolding time_of
returns-in-2 c = simp (eq-eqb _ _ c.in-2.is)

pub returns-in-3 : goal.returns-in-3
unfolding time_of end_time
returns-in-3 c = rw c.in-3.is (rw c.time_at-tick.ensures)

pub returns-in_default : goal.returns-in_default
unfolding time_of
returns-in_default c = rw (ne_eqb c.args.kind 2 (λ z. omega arith), ne_eqb c.args.kind 3 (λ z. omega arith)) (rw c.token_time-tick.ensures)
