-- The decoded timelines of a plan are timelines over the book's state variables, as the papers define them, just where every token keeps
-- its value, length and successor and ends by the last tick. Asks for a sound book. Assumes nothing.
use mathlib.Core.Path.{◌≡◌, refl, sym, ap, ◌∙◌}
use mathlib.Core.Bool.{true}
use mathlib.Core.Logic.{◌↔◌, ◌⊎◌, inl, inr, ⊎_elim}
use mathlib.Core.List.{List, [], ◌∷◌}
use Prim.Native.Nat.{ℕ, zero, suc, ◌+◌, ◌-◌, ◌*◌, ◌≤◌, ◌<◌}
use native.Mathlib.Nat.{add-zero}
use native.Mathlib.Omega.{arith}
use lib.ListN.{length}
use Rattle.words.specs.Words.{word, in_set}
use Rattle.words.proofs.Runs.{length_run, run_at}
use Rattle.clock.specs.Clock.{no_limit}
use Rattle.layout.specs.Layout.{count, offset, field, values_of}
use Rattle.book.specs.Sound.{Sound}
use Rattle.book.proofs.Inside.{in_range}
use Rattle.book.specs.Rules.{Variable, value_at, variable_at, variables_of}
use Rattle.lines.specs.declared.Token.{Token}
use Rattle.lines.specs.Lines.{token, line_count, job_of, line_of}
use Rattle.lines.specs.Ends.{end_from, line_end, plan_end}
use Rattle.plan.specs.Fault as plan
use Rattle.lines.proofs.Laws.{line-length, line-token}
use Rattle.plan.specs.Good.{TokenGood}
use Rattle.choice.specs.Met.{nobody}
use Rattle.claims.specs.Papers.{no_value, value_of, Lasts, Follows, token_of, Timeline, no_variable, Timelines, Plan}
use Rattle.claims.specs.Timelines.{durations_before, TokenKeeps, variable_of}

-- "A token starts at the sum of the durations before it on its line and ends a duration later", of every timeline as the papers define it
pub starts-at : {x : Variable} {line : List Token} → Timeline x line → (i : ℕ) → i < length line
    → ((token_of line i).start.tick ≡ durations_before line i) × ((token_of line i).end.tick ≡ durations_before line (suc i))
unfolding durations_before
starts-at t zero l = (t.first l, omega (arith, t.first l, t.forward 0 l))
starts-at t (suc i) l =
    let before = starts-at t i (omega arith) in
    let start = t.next i l ∙ before.1 in
    (start, omega (arith, start, t.forward (suc i) l))

-- when it ends: an empty one at 0, another with its last token
ends_with : (start : ℕ) (line : List Token) (i : ℕ) → suc i ≡ length line → end_from start line ≡ (token_of line i).end.tick
unfolding end_from
ends_with start [] i h = absurd (omega arith)
ends_with start (t ∷ []) zero h = refl
ends_with start (t ∷ []) (suc i) h = absurd (omega arith)
ends_with start (t ∷ (u ∷ line)) zero h = absurd (omega arith)
ends_with start (t ∷ (u ∷ line)) (suc i) h = ends_with t.end.tick (u ∷ line) i (omega arith)

pub line-ends : (line_end [] ≡ 0) × ((line : List Token) (i : ℕ) → suc i ≡ length line → line_end line ≡ (token_of line i).end.tick)
unfolding end_from
line-ends = (refl, ends_with 0)

module _ (b : List ℕ) (v : ℕ) (here : v < count b 0) where
  -- as its words say it
  variable_at_lem : variable_of b v ≡ variable_at b (offset b 0 + v * 2)
  unfolding variables_of
  variable_at_lem = run_at (variable_at b) 2 (count b 0) (offset b 0) v no_variable here

  -- it has as many values
  pub values_length : length (variable_of b v).values ≡ values_of 1 b v
  unfolding variable_at
  values_length = rw variable_at_lem (length_run _ _ _ _)

  -- its value k stands in the book where the tests look
  pub value_at_lem : (k : ℕ) → k < values_of 1 b v → value_of (variable_of b v) k ≡ value_at b (plan.value_place b v k)
  unfolding variable_at
  value_at_lem k l =
      let place : offset b 1 + 3 * word b (offset b 0 + v * 2) + k * 3 ≡ plan.value_place b v k = omega (arith, ap (word b) (add-zero (offset b 0 + v * 2))) in
      rw variable_at_lem (rw place at (run_at (value_at b) 3 (values_of 1 b v) (offset b 1 + 3 * word b (offset b 0 + v * 2)) k no_value l))

  -- D_x and T_x are as the book's words have them
  pub lasts_iff : (k d : ℕ) → k < values_of 1 b v
      → Lasts (variable_of b v) k d ↔ ((word b (plan.value_place b v k) ≤ d) × ((word b (plan.value_place b v k + 1) ≡ no_limit) ⊎ (d ≤ word b (plan.value_place b v k + 1))))
  unfolding value_at
  lasts_iff k d l =
      let is = value_at_lem k l in
      (λ h. (rw is at h.least, rw is at h.greatest), λ h. record { least = rw is h.0; greatest = rw is h.1 })

  pub follows_iff : (k w : ℕ) → k < values_of 1 b v → Follows (variable_of b v) k w ↔ (in_set (word b (plan.value_place b v k + 2)) w ≡ true)
  unfolding value_at
  follows_iff k w l =
      let is = value_at_lem k l in
      (λ h. rw is at h.bit, λ h. record { bit = rw is h })

-- token i of line v, as its words have it
abbrev token_at : List ℕ → ℕ → ℕ → Token
token_at p v i = token (plan.value_of p v i) (plan.start_of p v i) (plan.start_of p v i + plan.duration_of p v i) (job_of p v i)

-- ---- a token keeps what the state variable asks just where none of the tests 8, 9, 10, 11 finds a fault

module _ (b p : List ℕ) (v : ℕ) (here : v < count b 0) (j : ℕ) (there : j < line_count p v)
    (known : (i : ℕ) → suc i ≡ j → plan.value_of p v i < values_of 1 b v) where
  -- where the value before it is known
  pub token_keeps : TokenGood b p v j ↔ TokenKeeps (variable_of b v) (line_of p v) j
  token_keeps =
      let is = line-token p v j nobody there in
      let long = values_length b v here in
      let before : (i : ℕ) → suc i ≡ j → token_of (line_of p v) i ≡ token_at p v i = λ i e. line-token p v i nobody (omega arith) in
      let took : plan.start_of p v j + plan.duration_of p v j - plan.start_of p v j ≡ plan.duration_of p v j = omega arith in (
        λ g.
            record {
              value = rw (is, long) g.known;
              lasts = rw (is, took) ((lasts_iff b v here _ _ g.known).1 (g.at_least, ⊎_elim inr inl g.at_most));
              follows = λ i e.
                  let last : j - 1 ≡ i = omega arith in
                  rw (is, before i e) ((follows_iff b v here _ _ (known i e)).1 (rw last at (g.follows (λ z. omega arith))));
              last = rw is g.soon;
            },
        λ k.
            let value : plan.value_of p v j < values_of 1 b v = rw (is, long) at k.value in
            let lasts = (lasts_iff b v here _ _ value).0 (rw (is, took) at k.lasts) in
            record {
              known = value;
              at_least = lasts.0;
              at_most = ⊎_elim inr inl lasts.1;
              follows = λ n.
                  let at : suc (j - 1) ≡ j = omega arith in
                  (follows_iff b v here _ _ (known (j - 1) at)).0 (rw (is, before (j - 1) at) at (k.follows (j - 1) at));
              soon = rw is at k.last;
            },
      )

-- ---- all tokens of all timelines

module _ {e : ℕ} {b : List ℕ} (s : Sound e b) (p : List ℕ) where
  -- a line whose tokens are good is a timeline
  timeline_to : (v : ℕ) → v < count b 0 → ((j : ℕ) → j < line_count p v → TokenGood b p v j) → Timeline (variable_of b v) (line_of p v)
  unfolding plan.start_of
  timeline_to v l g =
      let long = line-length p v in
      let in-line : (i : ℕ) → i < length (line_of p v) → i < line_count p v = λ i h. omega arith in
      let keeps : (i : ℕ) → i < line_count p v → TokenKeeps (variable_of b v) (line_of p v) i = λ i h.
      (token_keeps b p v l i h (λ k q. (g k (omega arith)).known)).0 (g i h) in
      let is : (i : ℕ) → i < line_count p v → token_of (line_of p v) i ≡ token_at p v i = λ i h. line-token p v i nobody h in
      record {
        value = λ i h. (keeps i (in-line i h)).value;
        lasts = λ i h. (keeps i (in-line i h)).lasts;
        follows = λ i h. (keeps (suc i) (in-line (suc i) h)).follows i refl;
        first = λ h. ap (λ (t : Token). t.start.tick) (is 0 (in-line 0 h));
        next = λ i h.
            ap (λ (t : Token). t.start.tick) (is (suc i) (in-line (suc i) h)) ∙ sym (ap (λ (t : Token). t.end.tick) (is i (omega arith)));
        forward = λ i h.
            let q = g i (in-line i h) in
            let some = (s.values (field e b 0 v 0 + plan.value_of p v i) (in_range (s.variables v l) (plan.value_of p v i) q.known)).durations.from in
            let lasts = q.at_least in
            rw (is i (in-line i h)) (omega arith);
        last = λ i h. (keeps i (in-line i h)).last;
      }

  -- and back
  timeline_from : (v : ℕ) → v < count b 0 → Timeline (variable_of b v) (line_of p v) → (j : ℕ) → j < line_count p v → TokenGood b p v j
  timeline_from v l t j h =
      let long = line-length p v in
      let known : (i : ℕ) → suc i ≡ j → plan.value_of p v i < values_of 1 b v = λ i q.
      rw (line-token p v i nobody (omega arith), values_length b v l) at (t.value i (omega arith)) in
      (token_keeps b p v l j h known).1
      (record {
        value = t.value j (omega arith);
        lasts = t.lasts j (omega arith);
        follows = λ i q. rw (sym q) (t.follows i (omega arith));
        last = t.last j (omega arith);
      })

  -- THE LAW: the decoded plan is a plan over the book's state variables just where every token is good
  pub timelines_iff : Timelines (variables_of b) (line_of p) ↔ ((v : ℕ) → v < count b 0 → (j : ℕ) → j < line_count p v → TokenGood b p v j)
  unfolding variables_of
  timelines_iff =
      let long : length (variables_of b) ≡ count b 0 = length_run (variable_at b) 2 (count b 0) (offset b 0) in
      (λ q v l. timeline_from v l (q v (omega arith)), λ g v l. timeline_to v (omega arith) (g v (omega arith)))

  -- and they make a plan where they end together
  pub plan_iff : Plan (variables_of b) (line_of p)
      ↔ (((v : ℕ) → v < count b 0 → (j : ℕ) → j < line_count p v → TokenGood b p v j) × ((v : ℕ) → v < count b 0 → line_end (line_of p v) ≡ plan_end (line_of p)))
  unfolding variables_of
  plan_iff =
      let long : length (variables_of b) ≡ count b 0 = length_run (variable_at b) 2 (count b 0) (offset b 0) in (
        λ q. (timelines_iff.0 q.timeline, λ v l. q.horizon v (omega arith)),
        λ g. record { timeline = timelines_iff.1 g.0; horizon = λ v l. g.1 v (omega arith) },
      )
