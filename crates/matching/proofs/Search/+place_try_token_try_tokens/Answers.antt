-- The cycle of the search meets its contracts: no name left, a token that is tried, one that is passed over, or none left. Assumes nothing.
use mathlib.Core.Path.{refl, sym, ◌∙◌}
use native.Mathlib.Omega.{arith}
use Rattle.lines.proofs.Width.{width_few}
use Rattle.matching.proofs.Placing.{place_none, place_fails, place-some, token-none, token_hit, token_skip, token_miss, along_next, begun_first, begun_long, along_tied, source_tied}
use Rattle.matching.proofs.Search.+place_try_token_try_tokens.Goals as goal
use Rattle.matching.proofs.Search.+place_try_token_try_tokens.Goals.{try_tokens-then-wanted+else-try_token, try_tokens-else-wanted}

pub place-returns-then-not-hold_so_far : goal.place-returns-then-not-hold_so_far
place-returns-then-not-hold_so_far t c = sym (place_fails _ _ _ _ _ _ _ c.requires.0 c.hold_so_far.ensures c.if-not-hold_so_far.true)

pub place-returns-then-n-eq0 : goal.place-returns-then-n-eq0
place-returns-then-n-eq0 t c = sym (place_none _ _ _ _ _ _ _ c.requires.0 c.if-n-eq0.true c.hold_so_far.ensures ∙ c.if-not-hold_so_far.false)

pub place-returns : goal.place-returns
place-returns t c =
    let s = c.requires in
    let tied = c.tokens_tied-w.ensures in
    let w = c.tokens_left.ensures in
    c.try_tokens.ensures
    ∙ sym (place-some _ _ _ _ _ _ _ _ s.1 s.0 c.if-n-eq0.false (along_tied _ _ _ _ _ _ _ tied w.0) (source_tied _ _ _ _ _ _ _ _ tied w.1))

pub try_tokens-returns-then-w-eq0 : goal.try_tokens-returns-then-w-eq0
try_tokens-returns-then-w-eq0 t c = token-none _ _ _ _ _ _ _ c.if-w-eq0.true

pub try_tokens-try_token-requires : goal.try_tokens-try_token-requires
try_tokens-try_token-requires t c =
    let s = c.requires in (
      omega (arith, c.decreases),
      (
        s.0,
        begun_first _ _ _ _ _ _ _ _ _ _ s.2 s.1 c.if-w-eq0.false c.word_at.ensures c.job_at-job.ensures c.wanted.ensures c.if-wanted.true,
        s.4,
      ),
    )

pub try_tokens-returns-then-try_token : goal.try_tokens-returns-then-try_token
try_tokens-returns-then-try_token t c =
    token_hit _ _ _ _ _ _ _ _ _ c.if-w-eq0.false c.requires.1.width c.word_at.ensures c.job_at-job.ensures _ c.wanted.ensures _ c.if-wanted.true
    c.try_token.ensures c.if-try_token.true

pub try_tokens-overflow_add-next : goal.try_tokens-overflow_add-next
try_tokens-overflow_add-next t c =
    let l = c.requires.1 in omega (arith, l.room, l.width, (width_few c.args.self.now.plan.now).1, c.if-w-eq0.false)

pub try_tokens-try_tokens-requires : goal.try_tokens-try_tokens-requires
try_tokens-try_tokens-requires t c =
    let s = c.requires in (
      omega (arith, c.decreases, c.if-w-eq0.false),
      (s.0, along_next _ _ _ _ _ _ c.if-w-eq0.false c.word_at.ensures (omega arith) s.1, s.2, s.3, s.4),
    )

pub try_tokens-returns : goal.try_tokens-returns
try_tokens-returns t c =
    let s = c.requires in
    let some = c.if-w-eq0.false in
    let long = c.word_at.ensures in
    c.try_tokens.ensures
    ∙ sym
    (elim c.if-wanted.branch [
      | try_tokens-then-wanted+else-try_token w ↦
          token_miss _ _ _ _ _ _ _ _ _ some s.1.width long w.job_at-job.ensures _ c.wanted.ensures _ w.if-wanted.true w.try_token.ensures w.if-try_token.false
      | try_tokens-else-wanted w ↦
          token_skip _ _ _ _ _ _ _ _ _ some s.1.width long refl _ c.wanted.ensures s.0 (begun_long _ _ _ _ _ _ s.2) s.3 w.if-wanted.false
    ])
