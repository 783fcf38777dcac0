-- From the start of a line of a good plan, a reader's steps hand out just the tokens of the decoded line, in order. Assumes nothing.
use mathlib.Core.Path.{◌≡◌, ap, ◌∙◌}
use mathlib.Core.Bool.{true}
use mathlib.Core.List.{List, ◌∷◌}
use Prim.Native.Nat.{ℕ, zero, suc, ◌+◌, ◌*◌, ◌≤◌, ◌<◌}
use native.Mathlib.Numerals.{add-one}
use native.Mathlib.Omega.{arith}
use lib.ListN.{length}
use borrow.Author.Tests.{lt-ltb, le-leb}
use Rattle.words.specs.Words.{word}
use Rattle.clock.specs.Clock.{last_tick}
use Rattle.layout.specs.Layout.{count}
use Rattle.lines.specs.declared.Token.{Token}
use Rattle.lines.specs.declared.Step.{Step}
use Rattle.lines.specs.declared.Step.TheVariants.{Handed}
use Rattle.lines.specs.Lines.{token, line_count, token_width, line_place, value_of, duration_of, job_of, start_of, tokens_from, line_of}
use Rattle.lines.specs.Walk.{position, names, step_of}
use Rattle.lines.specs.Reading.{hands_out, handed}
use Rattle.lines.proofs.Width.{words_inside}
use Rattle.lines.proofs.Head.{line_inside}
use Rattle.lines.proofs.Reading.{none-handed, past_end}
use Rattle.plan.specs.Good.{PlanGood}

module _ (b p : List ℕ) (g : PlanGood b p) (v : ℕ) (l : v < count b 0) where
  -- token j of a line of a good plan is named, where it starts
  token-named : (j : ℕ) → j < line_count p v → names p (position v j (start_of p v j)) ≡ true
  unfolding names
  token-named j h =
      let t = g.tokens v l j h in
      let inside = line_inside b p g.head g.whole v l in
      let own = words_inside (token_width p) j (line_count p v) h in
      let lines = g.head.timelines in
      rw (
        lt-ltb v (word p 2) (omega arith),
        lt-ltb j (line_count p v) h,
        le-leb (line_place p v + token_width p * j + token_width p) (length p) (omega arith),
        le-leb (start_of p v j + duration_of p v j) last_tick t.soon,
      )

  -- so a step there hands it out
  step-token : (j : ℕ) → j < line_count p v
      → step_of p (position v j (start_of p v j))
      ≡ Handed (token (value_of p v j) (start_of p v j) (start_of p v j + duration_of p v j) (job_of p v j))
      (position v (j + 1) (start_of p v j + duration_of p v j))
  unfolding step_of
  step-token j h = rw (token-named j h)

  -- from token j on, m tokens are left
  handed-rest : (m j n : ℕ) → j + m ≡ line_count p v → m ≤ n
      → handed p n (position v j (start_of p v j)) ≡ tokens_from p m (line_place p v + token_width p * j) (start_of p v j)
  unfolding handed tokens_from start_of
  handed-rest zero j n e h = none-handed p n _ (past_end p v j (start_of p v j) (omega arith))
  handed-rest (suc m) j zero e h = absurd (omega arith)
  handed-rest (suc m) j (suc n) e h =
      let w = token_width p in
      let at : line_place p v + w * (j + 1) ≡ line_place p v + w * j + w = omega arith in
      let next : start_of p v (j + 1) ≡ start_of p v j + duration_of p v j = rw (add-one j) in
      let rest = handed-rest m (j + 1) n (omega arith) (omega arith) in
      ap (λ (s : Step). hands_out s (handed p n)) (step-token j (omega arith))
      ∙ ap (λ (ts : List Token). token (value_of p v j) (start_of p v j) (start_of p v j + duration_of p v j) (job_of p v j) ∷ ts) (rw (next, at) at rest)

  -- "hands out value, start and end of each token in turn", and its job: n steps from the start hand out the decoded line, if they are enough
  pub handed-line : (n : ℕ) → line_count p v ≤ n → handed p n (position v 0 0) ≡ line_of p v
  unfolding line_of start_of
  handed-line n h = handed-rest (line_count p v) 0 n (omega arith) h ∙ ap (λ (k : ℕ). tokens_from p (line_count p v) k 0) (omega arith)
