-- `matching::met` meets its contract: each way out of the loops tells whether an alternative is met, and what is kept is carried on. Assumes nothing.
use mathlib.Core.Path.{◌≡◌, refl, sym, ap, ◌∙◌}
use Prim.Native.Nat.{ℕ, ◌+◌, ◌-◌, ◌*◌}
use native.Mathlib.Omega.{arith}
use Rattle.choice.specs.declared.Tokens.{Tokens}
use Rattle.matching.specs.Search.{token_for}
use Rattle.lines.proofs.Width.{width_few}
use Rattle.matching.proofs.Placing.{trigger_in, wanted-left, begun_none, begun_first, begun_long, along_next, along_as, left_all, after_left, along_tied, source_tied, place_none, place-some, token-none, token_hit, token_skip, token_miss}
use Rattle.matching.proofs.Carrying.{carried_at, carried_next, carried_base, alt_placed, unmet_next, met_now, met_none}
use Rattle.matching.proofs.met.Goals as goal
use Rattle.matching.proofs.met.Goals.{then-wanted+else-try_token, else-wanted}

pub settle-requires : goal.settle-requires
settle-requires c =
    let a = c.alternative_at-a.ensures in
    (a.1, a.3, a.4, carried_at _ _ _ _ _ _ _ _ _ (omega arith) a.0 c.settled.invariant.kept, c.requires.0)

pub settled-preserved-in_default : goal.settled-preserved-in_default
settled-preserved-in_default c =
    let t = c.args.t in
    let s = c.settled.invariant in
    let alt = c.alternative_at-a.ensures.0 in
    record {
      going = s.going;
      left = unmet_next _ _ _ t _ _ _ s.left (omega arith)
          (alt_placed _ _ _ t _ _ _ alt refl ∙ c.in_default.ensures.0);
      kept = carried_next _ _ _ t _ _ _ _ _ _ alt c.settle.ensures.1 s.kept;
    }

pub settled-preserved-then-a-eq0 : goal.settled-preserved-then-a-eq0
settled-preserved-then-a-eq0 c =
    let t = c.args.t in
    let s = c.settled.invariant in
    let alt = c.alternative_at-a.ensures.0 in
    record {
      going = s.going;
      left = unmet_next _ _ _ t _ _ _ s.left (omega arith)
          (alt_placed _ _ _ t _ _ _ alt (trigger_in _ t _ _ c.requires.0 c.triggered-c.ensures) ∙ place_none _ _ _ _ 0 _ _ (omega arith) c.if-a-eq0.true c.hold_so_far.ensures ∙ c.if-hold_so_far.false);
      kept = carried_next _ _ _ t _ _ _ _ _ _ alt c.settle.ensures.1 s.kept;
    }

pub loop-init : goal.loop-init
loop-init c =
    let t = c.args.t in
    let v = c.tokens_tied-w.ensures in
    let w = c.tokens_left.ensures in
    let l = along_tied _ _ _ _ 0 _ _ v w.0 in
    let same = trigger_in _ t _ _ c.requires.0 c.triggered-c.ensures in
    let all = left_all c.tokens_tied-w.result in
    record {
      going = c.settled.invariant.going;
      along = along_as _ _ _ 0 _ _ all l;
      left = alt_placed _ _ _ t _ _ _ c.alternative_at-a.ensures.0 same
          ∙ place-some _ _ _ t _ 0 _ _ (begun_none _ _ _ t _ same) (omega arith) c.if-a-eq0.false l (source_tied _ _ _ t _ 0 _ _ v w.1)
          ∙ ap (λ (z : Tokens). token_for c.args.b.now c.args.p.now c.alternative_at-a.result (c.alternative_at-a.result.names - 1) 0 c.triggered-c.result z) all;
    }

pub try_token-requires : goal.try_token-requires
try_token-requires c =
    let a = c.alternative_at-a.ensures in
    let t = c.args.t in (
      omega (arith, c.if-a-eq0.false),
      begun_first _ _ _ t 0 _ _ _ _ _ (begun_none _ _ _ t _ (trigger_in _ t _ _ c.requires.0 c.triggered-c.ensures)) c.loop.invariant.along (λ z. omega arith) c.word_at.ensures
          c.job_at-job.ensures (wanted-left _ _ _ _ _ _ _ c.wanted.ensures) c.if-wanted.true,
      c.in-Some.ensures.0,
    )

pub overflow_add-place-in-loop : goal.overflow_add-place-in-loop
overflow_add-place-in-loop c =
    let l = c.loop.invariant.along in omega (arith, l.room, l.width, (width_few c.args.p.now).1, c.loop-test.true)

pub loop-preserved : goal.loop-preserved
loop-preserved c =
    let t = c.args.t in
    let l = c.loop.invariant in
    let some : c.tokens_tied-w.result.count - c.loop.counter ≡ 0 → ⊥ = λ z. omega arith in
    let d = c.word_at.ensures in
    let w = wanted-left _ _ _ _ _ _ _ c.wanted.ensures in
    let begun = begun_none c.args.b.now _ c.alternative_at-a.result t _ (trigger_in _ t _ _ c.requires.0 c.triggered-c.ensures) in
    let next = after_left c.tokens_tied-w.result c.loop.counter c.loop.place c.loop.start c.word_at.result in
    record {
      going = l.going;
      along = along_as _ _ _ 0 _ _ next (along_next _ _ _ _ _ _ some d (omega arith) l.along);
      left = l.left
          ∙ elim c.if-wanted.branch [
            | then-wanted+else-try_token g ↦
                token_miss _ _ _ _ _ _ _ _ _ some l.along.width d g.job_at-job.ensures _ w _ g.if-wanted.true g.try_token.ensures g.if-try_token.false
            | else-wanted g ↦
                token_skip _ _ _ _ _ _ _ _ _ some l.along.width d refl _ w (omega (arith, c.if-a-eq0.false)) (begun_long _ _ _ _ _ _ begun) c.tokens_tied-w.ensures.tie g.if-wanted.false
          ]
          ∙ ap (λ (z : Tokens). token_for c.args.b.now c.args.p.now c.alternative_at-a.result (c.alternative_at-a.result.names - 1) 0 c.triggered-c.result z) next;
    }

pub settled-preserved : goal.settled-preserved
settled-preserved c =
    let t = c.args.t in
    let s = c.settled.invariant in
    let l = c.loop.invariant in
    let alt = c.alternative_at-a.ensures.0 in
    record {
      going = l.going;
      left = unmet_next _ _ _ t _ _ _ s.left (omega arith) (l.left ∙ sym (token-none _ _ _ _ _ _ _ (omega arith)));
      kept = carried_next _ _ _ t _ _ _ _ _ _ alt c.settle.ensures.1 s.kept;
    }

pub returns-after-settled : goal.returns-after-settled
returns-after-settled c =
    let t = c.args.t in
    let s = c.settled.invariant in
    let same = ap (λ (z : ℕ). z + 4 * c.args.first) c.number_at.ensures.0 in
    (s.going ∙ sym (met_none _ _ _ t _ _ _ s.left _ (omega arith) same), carried_base _ _ _ t _ _ _ _ same s.kept)

pub returns-then-hold_so_far : goal.returns-then-hold_so_far
returns-then-hold_so_far c =
    let t = c.args.t in
    let s = c.settled.invariant in
    let alt = c.alternative_at-a.ensures.0 in
    let same = ap (λ (z : ℕ). z + 4 * c.args.first) c.number_at.ensures.0 in (
      met_now _ _ _ t _ _ _ s.left _ (omega arith) same
          (alt_placed _ _ _ t _ _ _ alt (trigger_in _ t _ _ c.requires.0 c.triggered-c.ensures) ∙ place_none _ _ _ _ 0 _ _ (omega arith) c.if-a-eq0.true c.hold_so_far.ensures ∙ c.if-hold_so_far.true),
      carried_base _ _ _ t _ _ _ _ same (carried_next _ _ _ t _ _ _ _ _ _ alt c.settle.ensures.1 s.kept),
    )

pub returns-then-try_token : goal.returns-then-try_token
returns-then-try_token c =
    let t = c.args.t in
    let s = c.settled.invariant in
    let alt = c.alternative_at-a.ensures.0 in
    let same = ap (λ (z : ℕ). z + 4 * c.args.first) c.number_at.ensures.0 in
    let l = c.loop.invariant in (
      met_now _ _ _ t _ _ _ s.left _ (omega arith) same
          (l.left
          ∙ sym
          (token_hit _ _ _ _ _ _ _ _ _ (λ z. omega arith) l.along.width c.word_at.ensures c.job_at-job.ensures _
          (wanted-left _ _ _ _ _ _ _ c.wanted.ensures) _ c.if-wanted.true c.try_token.ensures c.if-try_token.true)),
      carried_base _ _ _ t _ _ _ _ same (carried_next _ _ _ t _ _ _ _ _ _ alt c.settle.ensures.1 s.kept),
    )
