-- The starts and ends of a plan's events are those of its tokens: event by event, line by line. Assumes nothing.
use mathlib.Core.Path.{◌≡◌, refl, sym, ap, ◌∙◌, subst}
use mathlib.Core.Bool.{cond}
use mathlib.Core.Logic.{◌⊎◌, inl, inr, ⊎_elim}
use mathlib.Core.List.{List, [], ◌∷◌, flat_map}
use Prim.Native.Nat.{ℕ, suc, ◌+◌, ◌≤◌, ◌<◌}
use native.Mathlib.Nat.{zero-add, add-zero}
use native.Mathlib.Omega.{arith}
use lib.Dec.{eqb}
use lib.ListN.{length, get_or}
use borrow.Author.Tests.{eqb-true, eq-eqb}
use Rattle.words.specs.Words.{word}
use Rattle.layout.specs.Layout.{count, values_of}
use Rattle.lines.specs.declared.Token.{Token}
use Rattle.lines.specs.Lines.{token, line_count, value_of, job_of, start_of, line_of, lines_of}
use Rattle.lines.proofs.Laws.{line-length, line-token, lines-length, lines-line}
use Rattle.event_list.specs.Events.{Action, Event, action, events_of}
use Rattle.event_list.specs.Moments.{actions_at, token_at_time, line_at_time, Shaped}
use Rattle.event_list.specs.Plans.{plan_lines}
use Rattle.event_list.proofs.Good.{Writes, together, lasts}
use Rattle.event_list.proofs.Moments.{events_at, events_shape}
use Rattle.events_claims.specs.Sequences.{Has, actions_of, time_at, Acts}
use Rattle.events_claims.specs.Times.{EventAt}
use Rattle.events_claims.proofs.Times.{has_left, has_right, has_either, has_cond, line-part, part-line, flat_part, part_flat, event-at, time_says}
use Rattle.events_claims.specs.Tokens.{no_token, AtTime, Mark}

token_acts : (T k : ℕ) (t : Token) (a : Action) → Has a (token_at_time T k t) → AtTime T k t a
unfolding token_at_time
token_acts T k t a h =
    ⊎_elim (λ q. let r = has_cond (eqb t.start.tick T) a (action k t.value 1 t.job) q in record { which = inl (eqb-true _ _ r.0, r.1) })
    (λ q. let r = has_cond (eqb t.end.tick T) a (action k t.value 0 t.job) q in record { which = inr (eqb-true _ _ r.0, r.1) })
    (has_either a (cond (eqb t.start.tick T) (action k t.value 1 t.job ∷ []) [])
    (cond (eqb t.end.tick T) (action k t.value 0 t.job ∷ []) []) h)

start_acts : (T k : ℕ) (t : Token) → t.start.tick ≡ T → Has (action k t.value 1 t.job) (token_at_time T k t)
unfolding token_at_time
start_acts T k t e = has_left _ (cond (eqb t.start.tick T) (action k t.value 1 t.job ∷ []) []) _
    (rw (eq-eqb t.start.tick T e) (inl refl))

end_acts : (T k : ℕ) (t : Token) → t.end.tick ≡ T → Has (action k t.value 0 t.job) (token_at_time T k t)
unfolding token_at_time
end_acts T k t e = has_right _ (cond (eqb t.start.tick T) (action k t.value 1 t.job ∷ []) []) _ (rw (eq-eqb t.end.tick T e) (inl refl))

module _ (b p : List ℕ) (w : Writes b p) where
  abbrev pub es : List Event
  es = events_of (plan_lines p)

  abbrev lines : word p 2 ≡ count b 0
  lines = w.plan.head.timelines

  pub shaped : Shaped es
  shaped = events_shape (plan_lines p) (together b p w)

  -- token m of line x, as the decoded plan has it
  pub token-is : (x m : ℕ) → m < line_count p x → get_or (line_of p x) m no_token ≡ token (value_of p x m) (start_of p x m) (start_of p x (m + 1))
      (job_of p x m)
  unfolding start_of
  token-is x m l =
      let e : m + 1 ≡ suc m = omega arith in
      line-token p x m no_token l ∙ ap (λ (k : ℕ). token (value_of p x m) (start_of p x m) (start_of p x k) (job_of p x m)) (sym e)

  -- a token's start is before its end
  pub starts_rise : (x m : ℕ) → x < count b 0 → m < line_count p x → start_of p x m < start_of p x (m + 1)
  unfolding start_of
  starts_rise x m h l =
      let e : m + 1 ≡ suc m = omega arith in
      let some = lasts b p w x h m l in
      rw e (omega (arith, some))

  -- where an action stands at a time
  record Where (T : ℕ) (a : Action) : Type 0 where
    line : ℕ
    inside : line < count b 0
    number : ℕ
    below : number < line_count p line
    acts : AtTime T line (token (value_of p line number) (start_of p line number) (start_of p line (number + 1)) (job_of p line number)) a

  acts_at : (T x m : ℕ) (a : Action) → Has a (token_at_time T x (token (value_of p x m) (start_of p x m) (start_of p x (m + 1)) (job_of p x m)))
      → AtTime T x (token (value_of p x m) (start_of p x m) (start_of p x (m + 1)) (job_of p x m)) a
  acts_at T x m a h = token_acts T x (token (value_of p x m) (start_of p x m) (start_of p x (m + 1)) (job_of p x m)) a h

  where_acts : (T : ℕ) (a : Action) → Has a (actions_at T es) → Where T a
  unfolding line_at_time
  where_acts T a h =
      let l = line-part [] (line_at_time T) 0 a (lines_of p) (rw (events_at p (together b p w) T) at h) in
      let n = lines-length p in
      let below : l.number < word p 2 = omega (arith, l.below, n) in
      let z : 0 + l.number ≡ l.number = zero-add l.number in
      let is : get_or (lines_of p) l.number [] ≡ line_of p l.number = lines-line p l.number below in
      let q : Has a (flat_map (token_at_time T l.number) (line_of p l.number)) = rw (z, is) at l.has in
      let t = flat_part no_token (token_at_time T l.number) a (line_of p l.number) q in
      let long = line-length p l.number in
      let here : t.number < line_count p l.number = omega (arith, t.below, long) in
      record {
        line = l.number;
        inside = omega (arith, below, lines);
        number = t.number;
        below = here;
        acts = acts_at T l.number t.number a (rw (token-is l.number t.number here) at t.has);
      }

  -- and back
  acts_where : (T x m : ℕ) (a : Action) → x < count b 0 → m < line_count p x
      → Has a (token_at_time T x (token (value_of p x m) (start_of p x m) (start_of p x (m + 1)) (job_of p x m))) → Has a (actions_at T es)
  unfolding line_at_time
  acts_where T x m a h l k =
      let n = lines-length p in
      let long = line-length p x in
      let z : 0 + x ≡ x = zero-add x in
      let t : Has a (flat_map (token_at_time T x) (line_of p x)) = part_flat no_token (token_at_time T x) a (line_of p x) m (omega (arith, l, long))
      (rw (token-is x m l) k) in
      rw (events_at p (together b p w) T)
      (part-line [] (line_at_time T) 0 a (lines_of p) x (omega (arith, h, lines, n)) (rw (z, lines-line p x (omega (arith, h, lines))) t))

  -- ---- by kind: a start is of a token that starts then, an end of one that ends then

  start_mark : (T x v job : ℕ) → Has (action x v 1 job) (actions_at T es) → Mark b p 0 x v job T
  start_mark T x v job h =
      let r = where_acts T (action x v 1 job) h in
      ⊎_elim
      (λ q.
      let line : x ≡ r.line = ap (λ (a : Action). a.line) q.1 in
      let value : v ≡ value_of p r.line r.number = ap (λ (a : Action). a.value) q.1 in
      let has : job ≡ job_of p r.line r.number = ap (λ (a : Action). a.job) q.1 in
      let z : r.number + 0 ≡ r.number = add-zero r.number in
      rw line (record { line = r.inside; number = r.number; below = r.below; value = sym value; has = sym has; time = rw z q.0 }))
      (λ q. let kind : 1 ≡ 0 = ap (λ (a : Action). a.kind) q.1 in absurd (omega (arith, kind)))
      r.acts.which

  end_mark : (T x v job : ℕ) → Has (action x v 0 job) (actions_at T es) → Mark b p 1 x v job T
  end_mark T x v job h =
      let r = where_acts T (action x v 0 job) h in
      ⊎_elim
      (λ q. let kind : 0 ≡ 1 = ap (λ (a : Action). a.kind) q.1 in absurd (omega (arith, kind)))
      (λ q.
      let line : x ≡ r.line = ap (λ (a : Action). a.line) q.1 in
      let value : v ≡ value_of p r.line r.number = ap (λ (a : Action). a.value) q.1 in
      let has : job ≡ job_of p r.line r.number = ap (λ (a : Action). a.job) q.1 in
      rw line (record { line = r.inside; number = r.number; below = r.below; value = sym value; has = sym has; time = q.0 }))
      r.acts.which

  -- any action of line x stands where one of its tokens starts or ends
  pub record Edge (x T : ℕ) : Type 0 where
    pub line : x < count b 0
    pub number : ℕ
    pub below : number ≤ line_count p x
    pub time : start_of p x number ≡ T

  pub any_mark : (T x : ℕ) (a : Action) → a.line ≡ x → Has a (actions_at T es) → Edge x T
  any_mark T x a e h =
      let r = where_acts T a h in
      ⊎_elim
      (λ q.
      let line : r.line ≡ x = sym (ap (λ (a : Action). a.line) q.1) ∙ e in
      rw line at (Edge-at r.line r.number T r.inside (omega (arith, r.below)) q.0))
      (λ q.
      let line : r.line ≡ x = sym (ap (λ (a : Action). a.line) q.1) ∙ e in
      rw line at (Edge-at r.line (r.number + 1) T r.inside (omega (arith, r.below)) q.0))
      r.acts.which
    where
      Edge-at : (x m T : ℕ) → x < count b 0 → m ≤ line_count p x → start_of p x m ≡ T → Edge x T
      Edge-at x m T h l t = record { line = h; number = m; below = l; time = t }

  -- an action is a start or an end, of a value that its variable has
  pub of_form : (T : ℕ) (a : Action) → Has a (actions_at T es)
      → (a.line < count b 0) × (a.value < values_of 1 b a.line) × ((a.kind ≡ 0) ⊎ (a.kind ≡ 1))
  of_form T a h =
      let r = where_acts T a h in
      let known : value_of p r.line r.number < values_of 1 b r.line = (w.plan.tokens r.line r.inside r.number r.below).known in
      ⊎_elim (λ q. formed a r.line (value_of p r.line r.number) 1 (job_of p r.line r.number) q.1 r.inside known (inr refl))
      (λ q. formed a r.line (value_of p r.line r.number) 0 (job_of p r.line r.number) q.1 r.inside known (inl refl))
      r.acts.which
    where
      formed : (a : Action) (x v kind job : ℕ) → a ≡ action x v kind job → x < count b 0 → v < values_of 1 b x → (kind ≡ 0) ⊎ (kind ≡ 1)
          → (a.line < count b 0) × (a.value < values_of 1 b a.line) × ((a.kind ≡ 0) ⊎ (a.kind ≡ 1))
      formed a x v kind job e h k c =
          subst (λ (a : Action). (a.line < count b 0) × (a.value < values_of 1 b a.line) × ((a.kind ≡ 0) ⊎ (a.kind ≡ 1))) (sym e) (h, k, c)

  -- ---- events

  -- each start and end of a token is an event
  pub start-event : (x m : ℕ) → x < count b 0 → m < line_count p x → EventAt es (start_of p x m)
  start-event x m h l =
      event-at es shaped (start_of p x m) (action x (value_of p x m) 1 (job_of p x m))
      (acts_where (start_of p x m) x m _ h l (start_acts (start_of p x m) x _ refl))

  pub end-event : (x m : ℕ) → x < count b 0 → m < line_count p x → EventAt es (start_of p x (m + 1))
  end-event x m h l =
      event-at es shaped (start_of p x (m + 1)) (action x (value_of p x m) 0 (job_of p x m))
      (acts_where (start_of p x (m + 1)) x m _ h l (end_acts (start_of p x (m + 1)) x _ refl))

  -- THE LAW: start(x, v) stands at event i exactly if a token of x with value v starts at its time; and end(x, v) likewise
  pub start-token : (x v i : ℕ) (a : Acts 1 es x v i) → Mark b p 0 x v a.job (time_at es i)
  start-token x v i a = start_mark (time_at es i) x v a.job (rw (time_says es shaped i a.below) a.has)

  pub end_token : (x v i : ℕ) (a : Acts 0 es x v i) → Mark b p 1 x v a.job (time_at es i)
  end_token x v i a = end_mark (time_at es i) x v a.job (rw (time_says es shaped i a.below) a.has)

  pub start_has : (x m i : ℕ) → x < count b 0 → m < line_count p x → i < length es → start_of p x m ≡ time_at es i
      → Has (action x (value_of p x m) 1 (job_of p x m)) (actions_of es i)
  start_has x m i h l k e = rw (time_says es shaped i k) at (acts_where (time_at es i) x m _ h l (start_acts (time_at es i) x _ e))

  pub token-starts : (x m i : ℕ) → x < count b 0 → m < line_count p x → i < length es → start_of p x m ≡ time_at es i → Acts 1 es x (value_of p x m) i
  token-starts x m i h l k e = record { below = k; job = job_of p x m; has = start_has x m i h l k e }

  pub token-ends : (x m i : ℕ) → x < count b 0 → m < line_count p x → i < length es → start_of p x (m + 1) ≡ time_at es i → Acts 0 es x (value_of p x m) i
  token-ends x m i h l k e =
      record {
        below = k;
        job = job_of p x m;
        has = rw (time_says es shaped i k) at
            (acts_where (time_at es i) x m _ h l (end_acts (time_at es i) x _ e));
      }
