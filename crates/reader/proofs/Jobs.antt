-- "Any job number is good": a plan of edition 2 that has no fault has none with other jobs. Assumes nothing.
use mathlib.Core.Path.{◌≡◌, refl, sym, ap, ◌∙◌}
use mathlib.Core.Logic.{inr}
use mathlib.Core.List.{List}
use Prim.Native.Nat.{ℕ, zero, suc, ◌+◌, ◌-◌, ◌*◌, ◌≤◌, ◌<◌}
use native.Mathlib.Omega.{arith}
use lib.ListN.{get_or-eq_default}
use borrow.Author.Tests.{ne_eqb}
use Rattle.answers.specs.Numbers.{no_fault}
use Rattle.words.specs.Words.{word}
use Rattle.layout.specs.Layout.{count}
use Rattle.lines.specs.Lines.{line_first, line_count, token_width, line_place, value_of, duration_of, start_of, tokens_from, line_of}
use Rattle.lines.specs.Ends.{end_from, line_end}
use Rattle.lines.specs.Fault.{sum_before}
use Rattle.lines.proofs.Width.{width_three}
use Rattle.plan.specs.Fault.{plan_fault}
use Rattle.plan.specs.Good.{TokenGood, PlanGood}
use Rattle.plan.proofs.Good.{plan_good, plan_good_back}
use Rattle.reader.specs.Jobs.{words_of, JobsAside, one_token}

-- ---- laws

module _ (p q : List ℕ) (same : JobsAside p q) where
  lines_same : word p 2 ≡ word q 2
  lines_same = same.before 2 (omega arith)

  edition_same : word q 0 ≡ 2
  edition_same = sym (same.before 0 (omega arith)) ∙ same.edition

  wide : token_width p ≡ 3
  wide = width_three p same.edition

  wide' : token_width q ≡ 3
  wide' = width_three q edition_same

  -- the tokens of a line end alike
  ends_same : (n m end start : ℕ) → end_from end (tokens_from p n (words_of p m) start) ≡ end_from end (tokens_from q n (words_of p m) start)
  unfolding end_from tokens_from
  ends_same zero m end start = refl
  ends_same (suc n) m end start =
      let next : words_of p m + 3 ≡ words_of p (suc m) = omega arith in
      rw (same.duration m, wide, wide', next) (ends_same n (suc m) _ _)

  module _ (v : ℕ) (l : v < word p 2) where
    first-same : line_first p v ≡ line_first q v
    first-same = same.before (3 + 2 * v) (omega arith)

    count_same : line_count p v ≡ line_count q v
    count_same = same.before (4 + 2 * v) (omega arith)

    -- where token j of the line stands, in both
    place : (j : ℕ) → line_place p v + token_width p * j ≡ words_of p (line_first p v + j)
    place j = rw wide (omega arith)

    place' : (j : ℕ) → line_place q v + token_width q * j ≡ words_of p (line_first p v + j)
    place' j = rw (wide', ← lines_same, ← first-same) (omega arith)

    value_same : (j : ℕ) → value_of p v j ≡ value_of q v j
    value_same j = ap (word p) (place j) ∙ same.value _ ∙ ap (word q) (sym (place' j))

    duration_same : (j : ℕ) → duration_of p v j ≡ duration_of q v j
    duration_same j = ap (λ (k : ℕ). word p (k + 1)) (place j) ∙ same.duration _ ∙ ap (λ (k : ℕ). word q (k + 1)) (sym (place' j))

    start-same : (j : ℕ) → start_of p v j ≡ start_of q v j
    unfolding start_of
    start-same zero = refl
    start-same (suc j) = rw (start-same j, duration_same j)

    end_same : line_end (line_of p v) ≡ line_end (line_of q v)
    unfolding line_of
    end_same =
        let here : line_place p v ≡ words_of p (line_first p v) = rw wide in
        let there : line_place q v ≡ words_of p (line_first p v) = rw (wide', lines_same, first-same) in
        rw (here, there, ← count_same) (ends_same (line_count p v) (line_first p v) 0 0)

    token-same : (b : List ℕ) (j : ℕ) → TokenGood b p v j → TokenGood b q v j
    token-same b j t =
        record {
          known = rw (← value_same j) t.known;
          at_least = rw (← value_same j, ← duration_same j) t.at_least;
          at_most = rw (← value_same j, ← duration_same j) t.at_most;
          follows = λ n. rw (← value_same (j - 1), ← value_same j) (t.follows n);
          soon = rw (← start-same j, ← duration_same j) t.soon;
        }

  sum_same : (v : ℕ) → v ≤ word p 2 → sum_before p v ≡ sum_before q v
  unfolding sum_before
  sum_same zero l = refl
  sum_same (suc v) l =
      let last : suc v - 1 ≡ v = omega arith in
      rw (ne_eqb (suc v) 0 (omega arith), last, first-same v (omega arith), count_same v (omega arith))

  good_same : (b : List ℕ) → PlanGood b p → PlanGood b q
  good_same b g =
      let n = g.head.timelines in
      let in-plan : (v : ℕ) → v < count b 0 → v < word p 2 = λ v l. omega arith in
      record {
        long = rw (← same.long) g.long;
        short = rw (← same.long) g.short;
        head = record {
          edition = inr edition_same;
          total = sym (same.before 1 (omega arith)) ∙ g.head.total ∙ same.long;
          timelines = sym lines_same ∙ n;
          follow = λ v l. sym (first-same v (in-plan v l)) ∙ g.head.follow v l ∙ sum_same v (omega arith);
          few = λ v l. rw (← count_same v (in-plan v l)) (g.head.few v l);
        };
        whole = rw (← same.long, ← sum_same (count b 0) (omega arith), wide') (rw wide at g.whole);
        tokens = λ v l j m. token-same v (in-plan v l) b j (g.tokens v l j (rw (count_same v (in-plan v l)) m));
        together = λ v l. sym (end_same v (in-plan v l)) ∙ g.together v l ∙ end_same 0 (omega arith);
      }

-- THE CLAIM
pub any-job : (b p q : List ℕ) → JobsAside p q → plan_fault b p ≡ no_fault → plan_fault b q ≡ no_fault
any-job b p q same h = plan_good_back b q (good_same p q same b (plan_good b p h))

pub one_token_lem : (j k : ℕ) → JobsAside (one_token j) (one_token k)
one_token_lem j k = record { edition = refl; long = refl; before = head; value = values; duration = durations }
  where
    head : (i : ℕ) → i < 5 → word (one_token j) i ≡ word (one_token k) i
    head zero l = refl
    head (suc zero) l = refl
    head (suc (suc zero)) l = refl
    head (suc (suc (suc zero))) l = refl
    head (suc (suc (suc (suc zero)))) l = refl
    head (suc (suc (suc (suc (suc i))))) l = absurd (omega arith)

    -- past the end there are no words
    past : (i : ℕ) → 8 ≤ i → word (one_token j) i ≡ word (one_token k) i
    past i l = get_or-eq_default (one_token j) 0 l ∙ sym (get_or-eq_default (one_token k) 0 l)

    values : (m : ℕ) → word (one_token j) (5 + 3 * m) ≡ word (one_token k) (5 + 3 * m)
    values zero = refl
    values (suc m) = past (5 + 3 * suc m) (omega arith)

    durations : (m : ℕ) → word (one_token j) (5 + 3 * m + 1) ≡ word (one_token k) (5 + 3 * m + 1)
    durations zero = refl
    durations (suc m) = past (5 + 3 * suc m + 1) (omega arith)
