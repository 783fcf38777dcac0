-- The events of a plan that passes 1 to 11 and 18 are a closed event sequence (000, Definitions 4.1, 4.2), they correspond to the plan (4.3), and
-- pairs of them identify its tokens. Assumes nothing.
use mathlib.Core.Path.{◌≡◌, refl, sym, ap, ◌∙◌}
use mathlib.Core.Logic.{inl}
use mathlib.Core.List.{List, [], ◌∷◌}
use Prim.Native.Nat.{ℕ, zero, suc, ◌+◌, ◌≤◌, ◌<◌}
use native.Mathlib.Nat.{add-zero}
use native.Mathlib.Decide.{dec_lt, ℕ_discrete}
use native.Mathlib.Omega.{arith}
use lib.ListN.{length, get_or}
use Rattle.layout.specs.Layout.{count, values_of}
use Rattle.book.specs.Fault.{book_fault}
use Rattle.lines.specs.declared.Token.{Token}
use Rattle.lines.specs.Lines.{token, line_count, value_of, job_of, start_of, line_of}
use Rattle.lines.specs.Ends.{plan_end}
use Rattle.lines.proofs.Laws.{line-length}
use Rattle.plan.specs.Fault.{plan_fault}
use Rattle.event_list.specs.Events.{Action, Event, action, events_of}
use Rattle.event_list.specs.Plans.{plan_lines}
use Rattle.event_list.specs.Moments.{Later, Shaped}
use Rattle.event_list.proofs.Back.{all-at}
use Rattle.event_list.proofs.Good.{Writes, writes}
use Rattle.event_list.proofs.Timed.{line-end, line_ticks_lem}
use Rattle.events_claims.specs.Sequences.{Has, actions_of, delay_of, no_event, time_at, Starts, Ends, Between, Some, EventSequence, Closed, Corresponds, Identifies}
use Rattle.events_claims.proofs.Times.{has_at, numbered, times_rise, times_order, time_first, time_says}
use Rattle.events_claims.specs.Tokens.{no_token}
use Rattle.events_claims.proofs.Tokens.{es, shaped, token-is, starts_rise, any_mark, of_form, start-event, end-event, start-token, end_token, token-starts, token-ends}

-- the first of some actions
some-action : (l : List Action) → 0 < length l → Has (get_or l 0 (action 0 0 0 0)) l
some-action [] h = absurd (omega arith)
some-action (a ∷ l) h = inl refl

-- later events have a delay and an action, and the first has an action
shape_some : (l : List Event) → Shaped l → (i : ℕ) → i < length l → 0 < length (actions_of l i)
unfolding Shaped
shape_some [] s i h = absurd (omega arith)
shape_some (e ∷ l) s zero h = s.1
shape_some (e ∷ l) s (suc i) h = (all-at Later no_event l i s.2 (omega arith)).actions

shape_delay : (l : List Event) → Shaped l → (i : ℕ) → 0 < i → i < length l → 0 < delay_of l i
unfolding Shaped
shape_delay [] s i p h = absurd (omega arith)
shape_delay (e ∷ l) s zero p h = absurd (omega arith)
shape_delay (e ∷ l) s (suc i) p h = (all-at Later no_event l i s.2 (omega arith)).delay

module _ (b p : List ℕ) (w : Writes b p) where
  abbrev E : List Event
  E = es b p w

  abbrev sh : Shaped E
  sh = shaped b p w

  -- ---- where tokens meet: start_of p x 0, start_of p x 1, .. rise up to the common end

  pub rise : (x m n : ℕ) → x < count b 0 → m < n → n ≤ line_count p x → start_of p x m < start_of p x n
  rise x m zero h l k = absurd (omega arith)
  rise x m (suc n) h l k =
      let e : n + 1 ≡ suc n = omega arith in
      let step : start_of p x n < start_of p x (suc n) = rw e at (starts_rise b p w x n h (omega arith)) in
      elim (ℕ_discrete m n) [ yes q ↦ rw q step | no q ↦ let r = rise x m n h (omega arith) (omega arith) in omega (arith, r, step) ]

  pub rise_least : (x m n : ℕ) → x < count b 0 → m ≤ n → n ≤ line_count p x → start_of p x m ≤ start_of p x n
  rise_least x m n h l k = elim (ℕ_discrete m n) [
    | yes q ↦ omega (arith, ap (start_of p x) q)
    | no q ↦ let r = rise x m n h (omega arith) k in omega
        (arith, r)
  ]

  -- so what meets earlier has a lower number
  pub order : (x m n : ℕ) → x < count b 0 → m ≤ line_count p x → start_of p x m < start_of p x n → m < n
  order x m n h l t = elim (dec_lt m n) [ yes q ↦ q | no q ↦ let r = rise_least x n m h (omega arith) l in absurd (omega (arith, r, t)) ]

  pub over : (x : ℕ) → x < count b 0 → start_of p x (line_count p x) ≡ plan_end (line_of p)
  over x h = sym (line_ticks_lem p x) ∙ sym (line-end p x) ∙ w.plan.together x h

  -- ---- Definitions 4.1 and 4.2

  item1 : (x v u i j : ℕ) → Starts E x v i → Starts E x u j → i < j → Between 0 E x v (i + 1) (j + 1)
  item1 x v u i j s t l =
      let a = start-token b p w x v i s in
      let c = start-token b p w x u j t in
      let q = end-event b p w x a.number a.line a.below in
      let at : start_of p x a.number ≡ time_at E i = ap (start_of p x) (sym (add-zero a.number)) ∙ a.time in
      let bt : start_of p x c.number ≡ time_at E j = ap (start_of p x) (sym (add-zero c.number)) ∙ c.time in
      let tt = times_rise E sh i j l t.below in
      let mn : a.number < c.number = order x a.number c.number a.line (omega (arith, a.below)) (omega (arith, at, bt, tt)) in
      let le = rise_least x (a.number + 1) c.number a.line (omega (arith, mn)) (omega (arith, c.below)) in
      let up = starts_rise b p w x a.number a.line a.below in
      record {
        index = q.index;
        least = let r = times_order E sh i q.index s.below (omega (arith, at, up, q.time)) in omega (arith, r);
        most = elim (dec_lt j q.index) [
          | yes n ↦ let r = times_rise E sh j q.index n q.below in absurd (omega (arith, r, q.time, bt, le))
          | no n ↦ omega arith
        ];
        acts = rw a.value at (token-ends b p w x a.number q.index a.line a.below q.below (sym q.time));
      }

  item2 : (x v u i j : ℕ) → Ends E x v i → Ends E x u j → j < i → Between 1 E x v j i
  item2 x v u i j s t l =
      let a = end_token b p w x v i s in
      let c = end_token b p w x u j t in
      let q = start-event b p w x a.number a.line a.below in
      let tt = times_rise E sh j i l s.below in
      let mn : c.number + 1 < a.number + 1 = order x (c.number + 1) (a.number + 1) a.line (omega (arith, c.below))
      (omega (arith, a.time, c.time, tt)) in
      let le = rise_least x (c.number + 1) a.number a.line (omega (arith, mn)) (omega (arith, a.below)) in
      let up = starts_rise b p w x a.number a.line a.below in
      record {
        index = q.index;
        least = elim (dec_lt q.index j) [
          | yes n ↦ let r = times_rise E sh q.index j n t.below in absurd (omega (arith, r, q.time, c.time, le))
          | no n ↦ omega arith
        ];
        most = times_order E sh q.index i q.below (omega (arith, up, q.time, a.time));
        acts = rw a.value at (token-starts b p w x a.number q.index a.line a.below q.below (sym q.time));
      }

  -- no event is later than the end
  pub event_soon : (k : ℕ) → k < length E → time_at E k ≤ plan_end (line_of p)
  event_soon k h =
      let a : Action = get_or (actions_of E k) 0 (action 0 0 0 0) in
      let m = any_mark b p w (time_at E k) a.line a refl (rw (time_says E sh k h) (some-action (actions_of E k) (shape_some E sh k h))) in
      let r = rise_least a.line m.number (line_count p a.line) m.line m.below (omega arith) in
      omega (arith, r, m.time, over a.line m.line)

  -- so before the last event no line is over
  item3 : (x v i : ℕ) → Ends E x v i → i + 1 < length E → Some 1 E x i
  item3 x v i s l =
      let a = end_token b p w x v i s in
      let next = event_soon (i + 1) l in
      let tt = times_rise E sh i (i + 1) (omega arith) l in
      let m : a.number + 1 < line_count p x =
      elim (dec_lt (a.number + 1) (line_count p x)) [
        | yes n ↦ n
        | no n ↦
            let is : a.number + 1 ≡ line_count p x = omega (arith, a.below) in
            let e : start_of p x (a.number + 1) ≡ plan_end (line_of p) = ap (start_of p x) is ∙ over x a.line in
            absurd (omega (arith, e, a.time, tt, next))
      ] in
      record { value = value_of p x (a.number + 1); acts = token-starts b p w x (a.number + 1) i a.line m s.below a.time }

  -- and what starts after 0 comes behind a token
  behind : (x i m : ℕ) → x < count b 0 → m < line_count p x → i < length E → start_of p x m ≡ time_at E i → 0 < time_at E i → Some 0 E x i
  unfolding start_of
  behind x i zero h l k e t = absurd (omega (arith, e, t))
  behind x i (suc m) h l k e t =
      let q : m + 1 ≡ suc m = omega arith in
      record { value = value_of p x m; acts = token-ends b p w x m i h (omega arith) k (ap (start_of p x) q ∙ e) }

  item4 : (x v i : ℕ) → Starts E x v i → 0 < i → Some 0 E x i
  item4 x v i s l =
      let a = start-token b p w x v i s in
      let first = time_first E sh in
      let tt = times_rise E sh 0 i l s.below in
      let at : start_of p x a.number ≡ time_at E i = ap (start_of p x) (sym (add-zero a.number)) ∙ a.time in
      behind x i a.number a.line a.below s.below at (omega (arith, first, tt))

  -- THE CLAIM: the events of a plan are an event sequence
  pub event_sequence : EventSequence (count b 0) (values_of 1 b) E
  event_sequence =
      record {
        action = λ i l a h. of_form b p w (time_at E i) a
            (rw (time_says E sh i l) h);
        non_empty = shape_some E sh;
        delay = shape_delay E sh;
        item1 = item1;
        item2 = item2;
        item3 = item3;
        item4 = item4;
      }

  -- a closed one
  pub closed : Closed E
  closed =
      record {
        right = λ x v i s.
            let a = start-token b p w x v i s in
            let q = end-event b p w x a.number a.line a.below in
            let at : start_of p x a.number ≡ time_at E i = ap (start_of p x) (sym (add-zero a.number)) ∙ a.time in
            let up = starts_rise b p w x a.number a.line a.below in
            record {
              index = q.index;
              least = let r = times_order E sh i q.index s.below (omega (arith, at, up, q.time)) in omega (arith, r);
              most = q.below;
              acts = rw a.value at (token-ends b p w x a.number q.index a.line a.below q.below (sym q.time));
            };
        left = λ x v i s.
            let a = end_token b p w x v i s in
            let q = start-event b p w x a.number a.line a.below in
            let up = starts_rise b p w x a.number a.line a.below in
            record {
              index = q.index;
              least = omega arith;
              most = times_order E sh q.index i q.below (omega (arith, up, q.time, a.time));
              acts = rw a.value at (token-starts b p w x a.number q.index a.line a.below q.below (sym q.time));
            };
      }

  -- ---- Definition 4.3

  -- token m of line x is on it
  on_line : (x m : ℕ) → m < line_count p x → Has (token (value_of p x m) (start_of p x m) (start_of p x (m + 1)) (job_of p x m)) (line_of p x)
  on_line x m l = let long = line-length p x in has_at _ (line_of p x) m no_token (omega (arith, l, long)) (token-is b p w x m l)

  -- a token that is on the line has a number there
  pub record Place (x : ℕ) (t : Token) : Type 0 where
    pub number : ℕ
    pub below : number < line_count p x
    pub is : t ≡ token (value_of p x number) (start_of p x number) (start_of p x (number + 1)) (job_of p x number)

  pub place : (x : ℕ) (t : Token) → Has t (line_of p x) → Place x t
  place x t h =
      let r = numbered no_token t (line_of p x) h in
      let long = line-length p x in
      let l : r.number < line_count p x = omega (arith, r.below, long) in
      record { number = r.number; below = l; is = sym r.is ∙ token-is b p w x r.number l }

  pub corresponds : Corresponds (count b 0) (line_of p) E
  corresponds =
      record {
        starts = λ x v i h l. (
          λ s.
              let a = start-token b p w x v i s in
              record {
                token = token (value_of p x a.number) (start_of p x a.number) (start_of p x (a.number + 1)) (job_of p x a.number);
                on = on_line x a.number a.below;
                value = a.value;
                when = ap (start_of p x) (sym (add-zero a.number)) ∙ a.time;
              },
          λ t.
              let r = place x t.token t.on in
              let value : value_of p x r.number ≡ v = sym (ap (λ (t : Token). t.value) r.is) ∙ t.value in
              let when : start_of p x r.number ≡ time_at E i = sym (ap (λ (t : Token). t.start.tick) r.is) ∙ t.when in
              rw value at (token-starts b p w x r.number i h r.below l when),
        );
        ends = λ x v i h l. (
          λ s.
              let a = end_token b p w x v i s in
              record {
                token = token (value_of p x a.number) (start_of p x a.number) (start_of p x (a.number + 1)) (job_of p x a.number);
                on = on_line x a.number a.below;
                value = a.value;
                when = a.time;
              },
          λ t.
              let r = place x t.token t.on in
              let value : value_of p x r.number ≡ v = sym (ap (λ (t : Token). t.value) r.is) ∙ t.value in
              let when : start_of p x (r.number + 1) ≡ time_at E i = sym (ap (λ (t : Token). t.end.tick) r.is) ∙ t.when in
              rw value at (token-ends b p w x r.number i h r.below l when),
        );
      }

  -- ---- which pairs of events identify tokens

  -- token m of line x, by the events i and j at which it starts and ends
  pub record Spans (x v i j : ℕ) : Type 0 where
    pub line : x < count b 0
    pub number : ℕ
    pub below : number < line_count p x
    pub value : value_of p x number ≡ v
    pub starts : start_of p x number ≡ time_at E i
    pub ends : start_of p x (number + 1) ≡ time_at E j

  pub identified : (x v i j : ℕ) → Identifies E x v i j → Spans x v i j
  identified x v i j d =
      let a = start-token b p w x v i d.start in
      let c = end_token b p w x v j d.end in
      let q = end-event b p w x a.number a.line a.below in
      let at : start_of p x a.number ≡ time_at E i = ap (start_of p x) (sym (add-zero a.number)) ∙ a.time in
      let up = starts_rise b p w x a.number a.line a.below in
      let later : i < q.index = times_order E sh i q.index d.start.below (omega (arith, at, up, q.time)) in
      let acts = token-ends b p w x a.number q.index a.line a.below q.below (sym q.time) in
      let not-before : q.index < j → ⊥ = λ l. d.alone q.index later l (action x (value_of p x a.number) 0 acts.job) acts.has refl in
      let not_after : j < q.index → ⊥ = λ l.
      let t1 = times_rise E sh i j d.order d.end.below in
      let t2 = times_rise E sh j q.index l q.below in
      let m1 = order x a.number (c.number + 1) a.line (omega (arith, a.below)) (omega (arith, at, c.time, t1)) in
      let m2 = order x (c.number + 1) (a.number + 1) a.line (omega (arith, c.below)) (omega (arith, c.time, q.time, t2)) in
      omega (arith, m1, m2) in
      let is : q.index ≡ j = omega (arith, not-before, not_after) in
      record { line = a.line; number = a.number; below = a.below; value = a.value; starts = at; ends = sym q.time ∙ ap (time_at E) is }

  pub identifies : (x i j : ℕ) (m : ℕ) → x < count b 0 → m < line_count p x → i < length E → j < length E
      → start_of p x m ≡ time_at E i → start_of p x (m + 1) ≡ time_at E j → Identifies E x (value_of p x m) i j
  identifies x i j m h l k n s e =
      let up = starts_rise b p w x m h l in
      record {
        start = token-starts b p w x m i h l k s;
        end = token-ends b p w x m j h l n e;
        order = times_order E sh i j k (omega (arith, up, s, e));
        alone = λ r a c act has line.
            let edge = any_mark b p w (time_at E r) x act line (rw (time_says E sh r (omega (arith, c, n))) has) in
            let t1 = times_rise E sh i r a (omega (arith, c, n)) in
            let t2 = times_rise E sh r j c n in
            let m1 = order x m edge.number h (omega (arith, l)) (omega (arith, s, edge.time, t1)) in
            let m2 = order x edge.number (m + 1) h edge.below (omega (arith, e, edge.time, t2)) in
            omega (arith, m1, m2);
      }

-- of a plan that passes: its events are a closed event sequence over the book's variables, and correspond to its timelines
pub plan_sequence : (b p : List ℕ) → (book_fault 1 b).number ≡ 0 → (plan_fault b p).number ≡ 0
    → EventSequence (count b 0) (values_of 1 b) (events_of (plan_lines p)) × Closed (events_of (plan_lines p)) × Corresponds (count b 0) (line_of p)
    (events_of (plan_lines p))
plan_sequence b p sound passes = let w = writes b p sound passes in (event_sequence b p w, closed b p w, corresponds b p w)
