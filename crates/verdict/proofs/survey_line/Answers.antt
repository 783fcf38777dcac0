-- `verdict::survey_line` meets its contract: token by token, those that are left are one fewer. Assumes nothing.
use native.Mathlib.Omega.{arith}
use mathlib.Core.Path.{◌≡◌, ap}
use mathlib.Core.Bool.{not}
use Rattle.lines.specs.declared.Token.{Token}
use Rattle.marks.specs.Marked.{Later}
use Rattle.matching.proofs.Fresh.{carried_later}
use Rattle.verdict.proofs.Steps.{line-start, line_other, line-met, line-unmet, line-end}
use Rattle.verdict.proofs.survey_line.Goals as goal
use Rattle.verdict.proofs.survey_line.Goals.{then-word_at-value+else-not-met, else-word_at-value}

-- a token that was made is later, or earlier, as its times are
later-as : {t u v : Token} → u ≡ v → Later t v → Later t u
later-as h l = rw h l

later-from : {t u v : Token} → t ≡ v → Later v u → Later t u
later-from h l = rw h l

pub loop-token-init : goal.loop-token-init
loop-token-init c =
    let some = c.requires.1 in (
      record { triggered = some; value = c.word_at-value.ensures; first = c.word_at-first.ensures; number = c.word_at-n.ensures },
      line-start _ _ _ _ _ _ _ some c.number_at-line.ensures.0 c.word_at-count.ensures c.line_place-at.ensures.0 (omega arith) c.line_place-at.ensures.1,
      c.forget.ensures _ _ _ _ _,
      c.token_width-width.ensures.0,
      c.token_width-width.ensures.2,
    )

pub met-requires : goal.met-requires
met-requires c =
    let t = c.token_at-t.ensures in (
      c.plan_end-last.ensures,
      carried_later _ _ _ _ _ _ _ _ (later-as t (record { start = omega arith; end = omega arith })) c.loop-token.invariant.2,
    )

pub returns-then-not-met : goal.returns-then-not-met
returns-then-not-met c =
    let l = c.loop-token.invariant in
    line-unmet l.1 l.0 _ _ _ c.loop-token-test.true c.word_at.ensures c.word_at-in-loop-token.ensures l.3 _ _ c.if-word_at-value.true c.token_at-t.ensures
    c.met.ensures.0 (ap not c.if-not-met.true)

pub loop-token-preserved : goal.loop-token-preserved
loop-token-preserved c =
    let l = c.loop-token.invariant in
    let more = c.loop-token-test.true in
    let d = c.word_at.ensures in
    let v = c.word_at-in-loop-token.ensures in (
      l.0,
      elim c.if-word_at-value.branch [
        | then-word_at-value+else-not-met w ↦
            rw w.seen-is (line-met l.1 l.0 _ _ _ more d v l.3 _ _ (omega arith) w.if-word_at-value.true w.token_at-t.ensures w.met.ensures.0 (ap not w.if-not-met.false))
        | else-word_at-value w ↦ rw w.seen-is (line_other l.1 l.0 _ _ _ more d v l.3 (omega arith) w.if-word_at-value.false)
      ],
      elim c.if-word_at-value.branch [
        | then-word_at-value+else-not-met w ↦
            rw w.kept-is (carried_later _ _ _ _ _ _ _ _ (later-from w.token_at-t.ensures (record { start = omega arith; end = omega arith })) w.met.ensures.1)
        | else-word_at-value w ↦ rw w.kept-is (carried_later _ _ _ _ _ _ _ _ (record { start = omega arith; end = omega arith }) l.2)
      ],
      l.3,
      l.4,
    )

pub returns : goal.returns
returns c = line-end c.loop-token.invariant.1 c.loop-token-test.false
