-- A plan without faults can be swept, and its ranked words keep its header. Assumes nothing.
use lib.ListN.{set}
use mathlib.Core.Path.{◌≡◌, refl, sym, ap, ◌∙◌}
use mathlib.Core.List.{List, [], ◌∷◌}
use Prim.Native.Nat.{ℕ, zero, suc, ◌+◌, ◌-◌, ◌*◌, ◌^◌, ◌≤◌, ◌<◌}
use native.Mathlib.Nat.{mul-le-mul_right}
use native.Mathlib.Omega.{arith}
use lib.Seq.{get_or-set_other}
use borrow.Author.Tests.{ne_eqb}
use Rattle.words.specs.Words.{word}
use Rattle.layout.specs.Layout.{count, field}
use Rattle.book.specs.Fault.{book_fault}
use Rattle.book.specs.Sound.{Sound}
use Rattle.book.proofs.Good.{good, no_number}
use Rattle.book.proofs.Sound.{sound}
use Rattle.book.proofs.Inside.{in_range}
use Rattle.lines.specs.declared.Token.{Token}
use Rattle.lines.specs.Lines.{line_first, line_count, line_place, value_of, start_of, line_of}
use Rattle.lines.specs.Fault.{sum_before}
use Rattle.lines.proofs.Head.{line_inside}
use Rattle.lines.proofs.Width.{width_few}
use Rattle.plan.specs.Fault.{plan_fault}
use Rattle.plan.specs.Good.{PlanGood}
use Rattle.plan.proofs.Good.{plan_good, no_number as plan-no-number}
use Rattle.verdict.specs.Judged.{examined}
use Rattle.verdict.specs.Survey.{placed_rules}
use Rattle.verdict.proofs.Few.{examined_few}
use Rattle.sweep.specs.Sweeps.{tokens_on, Sweeps}
use Rattle.order.specs.Ranked.{rank_tokens, rank_line, rank_lines, ranked_plan}

module _ (b p : List ℕ) (g : PlanGood b p) where
  -- "First tokens are running sums of the counts": so the tokens of the lines before are
  pub tokens_sum : (v : ℕ) → v ≤ count b 0 → tokens_on p v ≡ sum_before p v
  unfolding tokens_on sum_before
  tokens_sum zero l = refl
  tokens_sum (suc v) l =
      let last : suc v - 1 ≡ v = omega arith in
      let before : tokens_on p v ≡ line_first p v = tokens_sum v (omega arith) ∙ sym (g.head.follow v (omega arith)) in
      rw (ne_eqb (suc v) 0 (omega arith), last, before)

  -- THE LAW: a plan that passes 5 to 11 can be swept
  pub plan_sweeps : Sound 1 b → Sweeps p
  unfolding start_of
  plan_sweeps s =
      let lines = g.head.timelines in
      record {
        few = omega (arith, lines, s.header.few 0 (omega arith));
        short = g.short;
        inside = λ v l. line_inside b p g.head g.whole v (omega (arith, lines));
        tokens =
            omega (
              arith,
              ap (tokens_on p) lines,
              tokens_sum (count b 0) (omega arith),
              g.whole,
              g.short,
              mul-le-mul_right (sum_before p (count b 0)) (width_few p).0,
            );
        long = λ v l j m.
            let k : v < count b 0 = omega (arith, lines) in
            let t = g.tokens v k j m in
            let x = s.values (field 1 b 0 v 0 + value_of p v j) (in_range (s.variables v k) (value_of p v j) t.known) in
            omega (arith, t.at_least, x.durations.from);
        soon = λ v l j m. (g.tokens v (omega (arith, lines)) j m).soon;
      }

-- ---- the words up to the tokens stay

pub tokens_keep : (f : ℕ → ℕ) (w : ℕ) (r : List ℕ) (place : ℕ) (ts : List Token) (k : ℕ) → k ≤ place → word (rank_tokens f w r place ts) k ≡ word r k
unfolding rank_tokens
tokens_keep f w r place [] k l = refl
tokens_keep f w r place (t ∷ ts) k l = tokens_keep f w (set r (place + 1) (f t.end.tick - f t.start.tick)) (place + w) ts k (omega arith) ∙ get_or-set_other r (place + 1) k _ 0 (λ e. omega arith)

pub lines_keep : (p : List ℕ) (n k : ℕ) → k ≤ 3 + 2 * word p 2 → word (rank_lines p n) k ≡ word p k
unfolding rank_lines rank_line
lines_keep p zero k l = refl
lines_keep p (suc v) k l = tokens_keep _ _ (rank_lines p v) (line_place p v) (line_of p v) k (omega arith) ∙ lines_keep p v k l

pub ranked_count : (p : List ℕ) (v : ℕ) → v < word p 2 → line_count (ranked_plan p) v ≡ line_count p v
unfolding ranked_plan
ranked_count p v l = lines_keep p (word p 2) (4 + 2 * v) (omega arith)

-- so the count of trigger tokens fits a word
pub ranked_few : (b p : List ℕ) → Sound 1 b → PlanGood b p → examined (line_of (ranked_plan p)) (placed_rules 1 b) < 2 ^ 32
ranked_few b p s g =
    examined_few 1 b (ranked_plan p)
    (λ v l. omega (arith, ranked_count p v (omega (arith, g.head.timelines)), g.head.few v l)) s

-- a book without the faults 1 to 4, and a plan without 5 to 11 and 18
pub book_sound : (b : List ℕ) → (book_fault 1 b).number ≡ 0 → Sound 1 b
book_sound b h = sound 1 b (good 1 b (no_number 1 b h))

pub plan_fine : (b p : List ℕ) → (plan_fault b p).number ≡ 0 → PlanGood b p
plan_fine b p h = plan_good b p (plan-no-number b p h)
