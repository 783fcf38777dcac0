-- A plan that passes 1 to 11 and 18 is laid out line by line, and its lines, of tokens that last, end together by the last tick. Assumes
-- nothing.
use mathlib.Core.Path.{◌≡◌, refl, sym, ap, ◌∙◌}
use mathlib.Core.List.{List}
use Prim.Native.Nat.{ℕ, zero, suc, ◌+◌, ◌-◌, ◌*◌, ◌≤◌, ◌<◌}
use native.Mathlib.Nat.{mul_comm, mul-add, mul-one}
use native.Mathlib.Omega.{arith}
use borrow.Author.Tests.{ne_eqb}
use Rattle.words.specs.Words.{word}
use Rattle.words.specs.Lists.{All}
use Rattle.clock.specs.Clock.{last_tick}
use Rattle.layout.specs.Layout.{count, field}
use Rattle.book.specs.Fault.{book_fault}
use Rattle.book.specs.Sound.{Sound}
use Rattle.book.proofs.Good as book
use Rattle.book.proofs.Sound.{sound}
use Rattle.book.proofs.Inside.{in_range}
use Rattle.lines.specs.Lines.{line_first, line_count, line_place, token_width, value_of, duration_of, start_of}
use Rattle.lines.specs.Fault.{sum_before}
use Rattle.lines.proofs.Head.{line_inside}
use Rattle.plan.specs.Fault.{plan_fault}
use Rattle.plan.specs.Good.{PlanGood}
use Rattle.plan.proofs.Good.{plan_good, no_number}
use Rattle.event_list.specs.Events.{PlanToken, plan_ticks}
use Rattle.event_list.specs.Plans.{token_at, line_tokens, plan_lines}
use Rattle.event_list.proofs.Back.{Ends, Together}
use Rattle.event_list.proofs.Plans.{Laid}
use Rattle.event_list.proofs.Timed.{line-end, line_ticks_lem, plan_ticks_lem, all-run}

-- what is known of a plan that is written
pub record Writes (b p : List ℕ) : Type 0 where
  pub book : Sound 1 b
  pub plan : PlanGood b p

-- the writer has no fault
pub writes : (b p : List ℕ) → (book_fault 1 b).number ≡ 0 → (plan_fault b p).number ≡ 0 → Writes b p
writes b p h k = record { book = sound 1 b (book.good 1 b (book.no_number 1 b h)); plan = plan_good b p (no_number b p k) }

module _ (b p : List ℕ) (w : Writes b p) where
  abbrev g : PlanGood b p
  g = w.plan

  abbrev lines : word p 2 ≡ count b 0
  lines = w.plan.head.timelines

  -- a line begins where the line before ends
  next-sum : (v : ℕ) → v < word p 2 → sum_before p (v + 1) ≡ sum_before p v + line_count p v
  unfolding sum_before
  next-sum v l =
      let one : v + 1 - 1 ≡ v = omega arith in
      rw (ne_eqb (v + 1) 0 (λ z. omega (arith, z)), one) (ap (λ (s : ℕ). s + line_count p v) (g.head.follow v (omega (arith, lines, l))))

  pub laid : Laid p
  unfolding sum_before
  laid =
      record {
        sums = sum_before p;
        zeroth = refl;
        next = next-sum;
        follow = λ v l. g.head.follow v (omega (arith, lines, l));
        fits = λ v l.
            let lt : v < count b 0 = omega (arith, lines, l) in
            let inside = line_inside b p g.head g.whole v lt in
            let sum : token_width p * sum_before p (v + 1) ≡ token_width p * sum_before p v + token_width p * line_count p v = rw (next-sum v l)
            (mul-add (token_width p) (sum_before p v) (line_count p v)) in
            let first : token_width p * line_first p v ≡ token_width p * sum_before p v = ap (λ (s : ℕ). token_width p * s) (g.head.follow v lt) in
            omega (arith, inside, sum, first);
        total = g.head.total;
        whole = rw lines g.whole;
      }

  -- each token lasts
  pub lasts : (v : ℕ) → v < count b 0 → (j : ℕ) → j < line_count p v → 0 < duration_of p v j
  lasts v l j m =
      let t = g.tokens v l j m in
      let some = (w.book.values (field 1 b 0 v 0 + value_of p v j) (in_range (w.book.variables v l) (value_of p v j) t.known)).durations.from in
      omega (arith, some, t.at_least)

  tokens_last : (v : ℕ) → v < count b 0 → All (λ (t : PlanToken). 0 < t.duration) (line_tokens p v)
  unfolding line_tokens
  tokens_last v l =
      all-run (λ (t : PlanToken). 0 < t.duration) (token_at p) (token_width p) (line_count p v) (line_place p v)
      (λ j m. rw (mul_comm j (token_width p)) (lasts v l j m))

  -- THE LAW: its lines end together
  pub together : Together (plan_lines p)
  unfolding Together plan_lines
  together =
      all-run (Ends (plan_ticks (plan_lines p))) (line_tokens p) 1 (word p 2) 0
      (λ v l.
      let lt : v < count b 0 = omega (arith, lines, l) in
      let at : 0 + v * 1 ≡ v = omega (arith, mul-one v) in
      rw at
      (record {
        long = tokens_last v lt;
        end = sym (line-end p v) ∙ g.together v lt ∙ line-end p 0 ∙ sym (plan_ticks_lem p v l);
      }))

  -- and by the last tick
  soon : (v n : ℕ) → v < count b 0 → n ≡ line_count p v → start_of p v n ≤ last_tick
  unfolding start_of
  soon v zero l e = omega arith
  soon v (suc j) l e = (g.tokens v l j (omega (arith, e))).soon

  pub in_time : plan_ticks (plan_lines p) ≤ last_tick
  in_time =
      let some : 0 < count b 0 = w.book.header.some 0 (omega arith) in
      let ticks : plan_ticks (plan_lines p) ≡ start_of p 0 (line_count p 0) = plan_ticks_lem p 0 (omega (arith, lines, some)) ∙ line_ticks_lem p 0 in
      omega (arith, ticks, soon 0 (line_count p 0) some refl)
