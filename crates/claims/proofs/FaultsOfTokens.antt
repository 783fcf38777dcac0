-- Rows 8 to 11 of the fault table, opened: the stage names a token exactly if all tokens before it in the order keep what their state
-- variable asks, and this one doesn't, by the first of the four tests that it doesn't pass. Assumes nothing.
use mathlib.Core.Path.{◌≡◌, refl, sym, ap, ◌∙◌, subst}
use mathlib.Core.Bool.{Bool, true, false, ◌&&◌, not, cond, true≢false}
use mathlib.Core.Logic.{◌↔◌}
use mathlib.Core.List.{List}
use Prim.Native.Nat.{ℕ, suc, ◌+◌, ◌-◌, ◌≤◌, ◌<◌}
use native.Mathlib.Omega.{arith}
use lib.Dec.{ltb, eqb}
use lib.ListN.{length}
use borrow.Author.Tests.{ltb-true, lt-ltb, leb-true, leb-false, le-leb, lt-leb, eqb-true, not-false}
use Rattle.answers.specs.declared.Numbers.{Numbers}
use Rattle.answers.specs.Numbers.{numbers, no_fault}
use Rattle.words.specs.Words.{word, in_set}
use Rattle.clock.specs.Clock.{last_tick}
use Rattle.layout.specs.Layout.{count, values_of}
use Rattle.records.specs.Wrong.{value_unknown}
use Rattle.layout.proofs.Tests.{and_right}
use Rattle.lines.specs.Lines.{line_count, line_of}
use Rattle.plan.specs.Fault as plan
use Rattle.lines.proofs.Laws.{line-token}
use Rattle.plan.specs.Good.{TokenGood}
use Rattle.plan.proofs.Good.{outside_right, token_good, token_back}
use Rattle.choice.specs.Met.{nobody}
use Rattle.claims.specs.Papers.{Lasts, token_of, duration_of}
use Rattle.claims.specs.Wrongs.{First}
use Rattle.claims.proofs.WrongTests.{not_eq, unless, otherwise, none_is, first-is}
use Rattle.claims.specs.Timelines.{After, TokenKeeps, variable_of}
use Rattle.claims.proofs.Timelines.{values_length, lasts_iff, follows_iff, token_keeps}
use Rattle.claims.specs.FaultsOfTokens.{TokenWrong, FirstToken, unknown, outside, breaks, late}

-- ---- the four tests

-- the number of the first that is true
number-to : (P : ℕ → Type 0) (u o k l : Bool) → (u ≡ true → P 8) → (u ≡ false → o ≡ true → P 9) → (u ≡ false → o ≡ false → k ≡ true → P 10)
    → (u ≡ false → o ≡ false → k ≡ false → l ≡ true → P 11) → (n : ℕ) → cond u 8 (cond o 9 (cond k 10 (cond l 11 0))) ≡ n → 8 ≤ n → P n
number-to P true o k l h8 h9 h10 h11 n e m = subst P e (h8 refl)
number-to P false true k l h8 h9 h10 h11 n e m = subst P e (h9 refl refl)
number-to P false false true l h8 h9 h10 h11 n e m = subst P e (h10 refl refl refl)
number-to P false false false true h8 h9 h10 h11 n e m = subst P e (h11 refl refl refl refl)
number-to P false false false false h8 h9 h10 h11 n e m = absurd (omega arith)

module _ (b p : List ℕ) (v : ℕ) (here : v < count b 0) (j : ℕ) (there : j < line_count p v)
    (known : (i : ℕ) → suc i ≡ j → plan.value_of p v i < values_of 1 b v) where
  -- 8
  unknown_iff : (value_unknown 1 b v (plan.value_of p v j) ≡ false) ↔ ((token_of (line_of p v) j).value < length (variable_of b v).values)
  unknown_iff = rw (line-token p v j nobody there, values_length b v here) (leb-false _ _, lt-leb _ _)

  -- 9, of a known value
  lasts_test : (token_of (line_of p v) j).value < length (variable_of b v).values
      → (plan.duration_outside b (plan.value_place b v (plan.value_of p v j)) (plan.duration_of p v j) ≡ false)
      ↔ Lasts (variable_of b v) (token_of (line_of p v) j).value (duration_of (token_of (line_of p v) j))
  lasts_test k =
      let is = line-token p v j nobody there in
      let took : plan.start_of p v j + plan.duration_of p v j - plan.start_of p v j ≡ plan.duration_of p v j = omega arith in
      let value : plan.value_of p v j < values_of 1 b v = rw (is, values_length b v here) at k in
      let l = lasts_iff b v here (plan.value_of p v j) (plan.duration_of p v j) value in
      let o = outside_right b (plan.value_place b v (plan.value_of p v j)) (plan.duration_of p v j) in
      rw (is, took) (λ h. l.1 (o.0 h), λ h. o.1 (l.0 h))

  -- 10
  after_test : ((not (eqb j 0) && plan.not_successor b (plan.value_place b v (plan.value_of p v (j - 1))) (plan.value_of p v j)) ≡ false)
      ↔ After (variable_of b v) (line_of p v) j
  unfolding plan.not_successor
  after_test =
      let a = and_right (not (eqb j 0)) (not (in_set (word b (plan.value_place b v (plan.value_of p v (j - 1)) + 2)) (plan.value_of p v j))) in (
        λ h i e.
            let last : j - 1 ≡ i = omega arith in
            let q : not (in_set (word b (plan.value_place b v (plan.value_of p v i) + 2)) (plan.value_of p v j)) ≡ false = rw last at (a.0 h ((not_eq j 0).1 (λ z. omega arith))) in
            rw (line-token p v j nobody there, line-token p v i nobody (omega arith)) ((follows_iff b v here (plan.value_of p v i) (plan.value_of p v j) (known i e)).1 (not-false _ q)),
        λ h. a.1 (λ q.
            let n = (not_eq j 0).0 q in
            let e : suc (j - 1) ≡ j = omega arith in
            let f = rw (line-token p v j nobody there, line-token p v (j - 1) nobody (omega arith)) at (h (j - 1) e) in
            ap not ((follows_iff b v here (plan.value_of p v (j - 1)) (plan.value_of p v j) (known (j - 1) e)).0 f)),
      )

  -- 11
  late_iff : (ltb last_tick (plan.start_of p v j + plan.duration_of p v j) ≡ true) ↔ (last_tick < (token_of (line_of p v) j).end.tick)
  late_iff = rw (line-token p v j nobody there) (ltb-true _ _, lt-ltb _ _)

  -- the token's number is n, from 8 on, exactly if it is wrong so
  pub number_iff : (n : ℕ) → 8 ≤ n → (plan.token_fault b p v j ≡ n) ↔ TokenWrong (variable_of b v) (line_of p v) j n
  unfolding plan.token_fault
  number_iff n m = (λ h. to n h m, from n)
    where
      to : (n : ℕ) → plan.token_fault b p v j ≡ n → 8 ≤ n → TokenWrong (variable_of b v) (line_of p v) j n
      to =
          number-to (TokenWrong (variable_of b v) (line_of p v) j) (value_unknown 1 b v (plan.value_of p v j))
          (plan.duration_outside b (plan.value_place b v (plan.value_of p v j)) (plan.duration_of p v j))
          (not (eqb j 0) && plan.not_successor b (plan.value_place b v (plan.value_of p v (j - 1))) (plan.value_of p v j))
          (ltb last_tick (plan.start_of p v j + plan.duration_of p v j))
          (λ u. unknown (rw (line-token p v j nobody there, values_length b v here) (leb-true _ _ u)))
          (λ u o. let k = unknown_iff.0 u in outside k ((otherwise _ _ (lasts_test k)).0 o))
          (λ u o c. let k = unknown_iff.0 u in breaks k ((lasts_test k).0 o) ((otherwise _ _ after_test).0 c))
          (λ u o c l. let k = unknown_iff.0 u in late k ((lasts_test k).0 o) (after_test.0 c) (late_iff.0 l))

      from : (n : ℕ) → TokenWrong (variable_of b v) (line_of p v) j n → plan.token_fault b p v j ≡ n
      from _ (unknown h) = rw (le-leb (values_of 1 b v) (plan.value_of p v j) (rw (line-token p v j nobody there, values_length b v here) at h))
      from _ (outside k h) = rw (unknown_iff.1 k, (otherwise _ _ (lasts_test k)).1 h)
      from _ (breaks k l h) = rw (unknown_iff.1 k, (lasts_test k).1 l, (otherwise _ _ after_test).1 h)
      from _ (late k l a h) = rw (unknown_iff.1 k, (lasts_test k).1 l, after_test.1 a, late_iff.1 h)

-- ---- the first token that is wrong

module _ (b p : List ℕ) where
  -- a token's test is passed exactly if it is good; so a token that isn't not good is good
  good_iff : (v i : ℕ) → (plan.token_wrong b p v i ≡ false) ↔ TokenGood b p v i
  unfolding plan.token_wrong
  good_iff v i = (λ h. token_good b p v i (eqb-true _ _ (not-false _ h)), λ g. rw (token_back b p v i g))

  bad_iff : (v i : ℕ) → (plan.token_wrong b p v i ≡ true) ↔ (TokenGood b p v i → ⊥)
  bad_iff v i = otherwise (plan.token_wrong b p v i) (TokenGood b p v i) (good_iff v i)

  good_stable : (v i : ℕ) → ((TokenGood b p v i → ⊥) → ⊥) → TokenGood b p v i
  good_stable v i h = (good_iff v i).0 ((unless (plan.token_wrong b p v i) (TokenGood b p v i → ⊥) (bad_iff v i)).1 h)

  -- a line without fault, and the first faulty token of a line
  line-none : (v : ℕ) → (plan.line_wrong b p v ≡ false) ↔ ((i : ℕ) → i < line_count p v → TokenGood b p v i)
  unfolding plan.line_wrong plan.first_token
  line-none v =
      let n = none_is (line_count p v) (plan.token_wrong b p v) (λ i. TokenGood b p v i → ⊥) (bad_iff v) in
      (λ h i l. good_stable v i (n.0 h i l), λ g. n.1 (λ i l w. w (g i l)))

  line_first_lem : (v j : ℕ) → ((plan.line_wrong b p v ≡ true) × (plan.first_token b p v ≡ j)) ↔ First (line_count p v) (λ i. TokenGood b p v i → ⊥) j
  unfolding plan.line_wrong plan.first_token
  line_first_lem v j = first-is (line_count p v) (plan.token_wrong b p v) (λ i. TokenGood b p v i → ⊥) (bad_iff v) j

  -- the first m tokens of a line are good exactly if they keep what the state variable asks
  keeps_iff : (v : ℕ) → v < count b 0 → (m : ℕ) → m ≤ line_count p v
      → ((i : ℕ) → i < m → TokenGood b p v i) ↔ ((i : ℕ) → i < m → TokenKeeps (variable_of b v) (line_of p v) i)
  keeps_iff v h m few = (
    λ g i l. (token_keeps b p v h i (omega arith) (λ k q. (g k (omega arith)).known)).0 (g i l),
    λ g i l.
        (token_keeps b p v h i (omega arith)
        (λ k q. rw (line-token p v k nobody (omega arith), values_length b v h) at (g k (omega arith)).value)).1 (g i l),
  )

  -- the stage gives the number, line and token of the first
  tokens_given : (n v j : ℕ) → 8 ≤ n
      → (plan.tokens_fault b p ≡ numbers n v j)
      ↔ ((ltb (plan.first_line b p) (count b 0) ≡ true) × (plan.first_line b p ≡ v) × (plan.first_token b p v ≡ j) × (plan.token_fault b p v j ≡ n))
  unfolding plan.tokens_fault
  tokens_given n v j m = (λ h. to (ltb (plan.first_line b p) (count b 0)) h, λ h. rw (h.0, h.1, h.2, h.3))
    where
      to : (t : Bool) → cond t (plan.line_fault b p (plan.first_line b p)) no_fault ≡ numbers n v j
          → (t ≡ true) × (plan.first_line b p ≡ v) × (plan.first_token b p v ≡ j) × (plan.token_fault b p v j ≡ n)
      to true e =
          let line : plan.first_line b p ≡ v = ap (λ (r : Numbers). r.a) e in
          let token : plan.first_token b p v ≡ j = ap (plan.first_token b p) (sym line) ∙ ap (λ (r : Numbers). r.b) e in
          (refl, line, token, rw (← token, ← line) (ap (λ (r : Numbers). r.number) e))
      to false e = let z = ap (λ (r : Numbers). r.number) e in absurd (omega arith)

  -- THE LAW: the stage gives n, v, j exactly if token j of timeline v is the first that is wrong, and is wrong so
  pub tokens_is : (n v j : ℕ) → 8 ≤ n → (plan.tokens_fault b p ≡ numbers n v j) ↔ (FirstToken b p v j × TokenWrong (variable_of b v) (line_of p v) j n)
  tokens_is n v j m =
      let g = tokens_given n v j m in
      let f = first-is (count b 0) (plan.line_wrong b p) (λ u. plan.line_wrong b p u ≡ true) (λ u. (λ h. h, λ h. h)) v in (
        λ h.
            let q = g.0 h in
            let lines = f.0 (q.0, q.1) in
            let tokens = (line_first_lem v j).0 (lines.here, q.2) in
            let here = lines.below in
            let there = tokens.below in
            let good : (i : ℕ) → i < j → TokenGood b p v i = λ i l. good_stable v i (tokens.before i l) in
            let before : (u : ℕ) → u < v → (i : ℕ) → i < line_count p u → TokenGood b p u i = λ u l.
            (line-none u).0 ((unless (plan.line_wrong b p u) (plan.line_wrong b p u ≡ true) (λ h. h, λ h. h)).1 (lines.before u l)) in (
              record {
                timeline = here;
                token = there;
                timelines = λ u l. (keeps_iff u (omega arith) (line_count p u) (omega arith)).0 (before u l);
                tokens = (keeps_iff v here j (omega arith)).0 good;
              },
              (number_iff b p v here j there (λ i e. (good i (omega arith)).known) n m).0 q.3,
            ),
        λ h.
            let t = h.0 in
            let here = t.timeline in
            let there = t.token in
            let good = (keeps_iff v here j (omega arith)).1 t.tokens in
            let number = (number_iff b p v here j there (λ i e. (good i (omega arith)).known) n m).1 h.1 in
            let w = (line_first_lem v j).1 (record {
              below = there;
              here = λ k. let z = token_back b p v j k in omega arith;
              before = λ i l n. n (good i l);
            }) in
            let q = f.1 (record {
              below = here;
              here = w.0;
              before = λ u l e. true≢false (sym e ∙ (line-none u).1 ((keeps_iff u (omega arith) (line_count p u) (omega arith)).1 (t.timelines u l)));
            }) in
            g.1 (q.0, q.1, w.1, number),
      )
