-- `moments::later` meets its contract: its loop keeps the invariant, and leaves what is promised. Assumes nothing.
use mathlib.Core.Path.{ap, ◌∙◌, refl}
use native.Mathlib.Omega.{arith}
use lib.Seq.{get_or-set_other}
use borrow.Author.Rules.{rules}
use Rattle.event_list.specs.Events.{later}
use Rattle.moments.specs.State.{nothing, line_left, left_on}
use Rattle.moments.proofs.Laws.{upto_none, upto_more, upto_each}
use Rattle.moments.proofs.later.Goals as goal

pub loop-v-init : goal.loop-v-init
loop-v-init c = (upto_none _ _ _ (search rules) c.requires.1, λ k l. refl)

pub line_later-requires : goal.line_later-requires
line_later-requires c = c.loop-v.invariant.0.small _

pub loop-v-preserved : goal.loop-v-preserved
unfolding left_on
loop-v-preserved c =
    let line = c.line_later.ensures in
    let h = c.loop-v.invariant in (
      upto_more h.0 (omega arith) (line.0 ∙ ap (λ s. later c.args.m (line_left c.args.plan.now s)) (h.1 c.loop-v.v (omega arith))) line.1,
      λ k l. get_or-set_other _ _ k _ nothing (λ e. omega arith) ∙ h.1 k (omega arith),
    )

pub returns : goal.returns
returns c = let done = c.loop-v.invariant.0 in (upto_each _ _ _ done c.loop-v-test.false, done.small)
