-- `plan_fault` is 0 0 0 for just the good plans: a token has the number 0 just where it is good, and so on up to the whole plan. Assumes
-- nothing.
use mathlib.Core.Path.{◌≡◌, refl, ap}
use mathlib.Core.Bool.{Bool, true, false, ◌&&◌, not, cond}
use mathlib.Core.Logic.{◌↔◌, ◌⊎◌, inl, inr, ⊎_elim}
use mathlib.Core.List.{List}
use Prim.Native.Nat.{ℕ, ◌+◌, ◌-◌, ◌*◌, ◌≤◌, ◌<◌}
use lib.Dec.{ltb, eqb}
use lib.ListN.{length}
use borrow.Author.Tests.{ltb-true, ltb-false, leb-false, eqb-true, eqb-false, not-false, le-ltb, lt-leb, eq-eqb, ne_eqb}
use Rattle.answers.specs.declared.Numbers.{Numbers}
use Rattle.answers.specs.Numbers.{no_fault, or_else}
use Rattle.answers.proofs.Stages.{stages, stage, held}
use Rattle.words.specs.Words.{word}
use Rattle.words.specs.Least.{Clear}
use Rattle.words.proofs.Least.{least_law, none_below}
use Rattle.clock.specs.Clock.{last_tick, no_limit, in_bounds}
use Rattle.clock.proofs.Laws.{lasts_iff}
use Rattle.layout.specs.Layout.{count}
use Rattle.layout.proofs.Tests.{or_right, not_right}
use Rattle.lines.specs.Lines.{line_count, token_width, value_of}
use Rattle.lines.specs.Fault.{length_fault, sum_before, head_wrong, head_fault, end_fault}
use Rattle.lines.proofs.Head.{head_good, head_back}
use Rattle.lines.specs.Ends.{ends_apart, ends_fault}
use Rattle.plan.specs.Fault.{value_place, duration_outside, not_successor, token_fault, token_wrong, first_token, line_wrong, first_line, line_fault, tokens_fault, plan_fault}
use Rattle.plan.specs.Good.{TokenGood, PlanGood}
use Rattle.plan.proofs.Tokens.{token-passes, bad_token}

-- ---- laws of a token

-- a duration is within its value's bounds, in plain numbers
pub outside_right : (b : List ℕ) (place d : ℕ)
    → (duration_outside b place d ≡ false) ↔ ((word b place ≤ d) × ((word b (place + 1) ≡ no_limit) ⊎ (d ≤ word b (place + 1))))
unfolding duration_outside
outside_right b place d =
    let n = not_right (in_bounds no_limit 0 d (word b place) (word b (place + 1))) in
    let l = lasts_iff no_limit (word b place) (word b (place + 1)) d in
    (λ h. l.0 (n.0 h), λ h. n.1 (l.1 h))

module _ (b p : List ℕ) (v j : ℕ) where
  -- a token with the number 0 is good
  pub token_good : token_fault b p v j ≡ 0 → TokenGood b p v j
  unfolding not_successor
  token_good z =
      let t = token-passes b p v j z in
      let lasts = (outside_right b _ _).0 t.1 in
      record {
        known = leb-false _ _ t.0;
        at_least = lasts.0;
        at_most = ⊎_elim inr inl lasts.1;
        follows = λ n. not-false _ (rw (ne_eqb j 0 n) at t.2);
        soon = ltb-false _ _ t.3;
      }

  -- and back: each test is passed
  allowed : (t : Bool) → eqb j 0 ≡ t → TokenGood b p v j
      → (not t && not_successor b (value_place b v (value_of p v (j - 1))) (value_of p v j)) ≡ false
  unfolding not_successor
  allowed true e g = refl
  allowed false e g = rw (g.follows (eqb-false _ _ e))

  pub token_back : TokenGood b p v j → token_fault b p v j ≡ 0
  unfolding token_fault
  token_back g =
      rw (
        lt-leb _ _ g.known,
        (outside_right b _ _).1 (g.at_least, ⊎_elim inr inl g.at_most),
        allowed _ refl g,
        le-ltb last_tick _ g.soon,
      )

module _ (b p : List ℕ) where
  -- no token of a right line is faulty, and back
  line_good : (v : ℕ) → line_wrong b p v ≡ false → (j : ℕ) → j < line_count p v → TokenGood b p v j
  unfolding line_wrong first_token token_wrong
  line_good v h j l = token_good b p v j (eqb-true _ _ (not-false _ ((none_below _ _).0 h j l)))

  line_back : (v : ℕ) → ((j : ℕ) → j < line_count p v → TokenGood b p v j) → line_wrong b p v ≡ false
  unfolding line_wrong first_token token_wrong
  line_back v g = (none_below (line_count p v) (token_wrong b p v)).1 (λ j l. rw (token_back b p v j (g j l)))

  -- the tokens have no fault number: no line is wrong
  tokens_good : (tokens_fault b p).number ≡ 0 → Clear (line_wrong b p) (count b 0)
  unfolding tokens_fault
  tokens_good h = split (ltb (first_line b p) (count b 0)) refl h
    where
      split : (t : Bool) → ltb (first_line b p) (count b 0) ≡ t → (cond t (line_fault b p (first_line b p)) no_fault).number ≡ 0 → Clear (line_wrong b p) (count b 0)
      split true e z = absurd (bad_token b p (first_line b p) ((least_law (count b 0) (line_wrong b p)).here (ltb-true _ _ e)) z)
      split false e z = (none_below _ _).0 e

  tokens_back : ltb (first_line b p) (count b 0) ≡ false → (tokens_fault b p).number ≡ 0
  unfolding tokens_fault
  tokens_back h = rw h

  -- the tokens' stage finds nothing just where every token is good
  pub tokens_none : ((tokens_fault b p).number ≡ 0) ↔ ((v : ℕ) → v < count b 0 → (j : ℕ) → j < line_count p v → TokenGood b p v j)
  tokens_none = (λ h v l. line_good v (tokens_good h v l), λ g. tokens_back ((none_below (count b 0) (line_wrong b p)).1 (λ v l. line_back v (g v l))))

  -- a plan with the answer number 0 is good
  good_number : (plan_fault b p).number ≡ 0 → PlanGood b p
  unfolding plan_fault length_fault head_fault end_fault ends_fault ends_apart
  good_number h =
      let s1 = (stages _ _).0 h in
      let s2 = (stages _ _).0 s1.1 in
      let s3 = (stages _ _).0 s2.1 in
      let s4 = (stages _ _).0 s3.1 in
      let size = (or_right _ _).0 (stage _ 4 0 0 s1.0) in
      record {
        long = ltb-false _ _ size.0;
        short = ltb-false _ _ size.1;
        head = head_good b p ((none_below _ _).0 (stage _ 5 _ _ s2.0));
        whole = eqb-true _ _ (held _ 6 0 0 s3.0);
        tokens = λ v l. line_good v (tokens_good s4.0 v l);
        together = λ v l. eqb-true _ _ (not-false _ ((none_below _ _).0 (stage _ 17 _ _ s4.1) v l));
      }

  pub plan_good : plan_fault b p ≡ no_fault → PlanGood b p
  plan_good h = good_number (ap (λ (n : Numbers). n.number) h)

  pub plan_good_back : PlanGood b p → plan_fault b p ≡ no_fault
  unfolding plan_fault length_fault head_fault end_fault tokens_fault ends_fault ends_apart or_else
  plan_good_back g =
      simp (
        le-ltb (length p) (3 + 2 * count b 0) g.long,
        le-ltb 16384 (length p) g.short,
        (none_below (3 + 2 * count b 0) (head_wrong b p)).1 (head_back b p g.head),
        eq-eqb (3 + 2 * count b 0 + token_width p * sum_before p (count b 0)) (length p) g.whole,
        (none_below (count b 0) (line_wrong b p)).1 (λ v l. line_back v (g.tokens v l)),
        (none_below (count b 0) (ends_apart p)).1 (λ v l. rw (eq-eqb _ _ (g.together v l))),
      )

  -- with the number 0 the other two numbers are 0 too
  pub no_number : (plan_fault b p).number ≡ 0 → plan_fault b p ≡ no_fault
  no_number h = plan_good_back (good_number h)
