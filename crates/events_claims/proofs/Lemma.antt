-- 000, Lemma 4.6: "π ⊨ R if and only if, for any μ_i = (A_i, δ_i) such that start(x_0, v_0) ∈ A_i, there is an E_k and a γ such that μ, γ ⊨ G_E_k and
-- γ(start(a_0)) = i", of a plan that passes 1 to 11 and 18 and its events. Assumes nothing.
use mathlib.Core.Path.{◌≡◌, refl, sym, ap, ◌∙◌}
use mathlib.Core.Logic.{◌↔◌, inl}
use mathlib.Core.List.{List, [], ◌∷◌, ◌++◌}
use Prim.Native.Nat.{ℕ, zero, suc, ◌+◌, ◌≤◌, ◌<◌}
use native.Mathlib.Nat.{add-zero}
use native.Mathlib.Decide.{dec_lt}
use native.Mathlib.Omega.{arith}
use lib.ListN.{length, get_or}
use borrow.Author.Tests.{le-leb}
use Rattle.words.specs.Lists.{All}
use Rattle.words.specs.Runs.{run}
use Rattle.clock.proofs.Laws.{at_least}
use Rattle.layout.specs.Layout.{count}
use Rattle.book.specs.Rules.{Name, Atom, Alternative, Rule}
use Rattle.lines.specs.declared.Token.{Token}
use Rattle.lines.specs.Lines.{token, line_count, value_of, job_of, start_of, line_of}
use Rattle.lines.proofs.Laws.{line-length}
use Rattle.event_list.specs.Events.{Event, action}
use Rattle.event_list.proofs.Good.{Writes}
use Rattle.events_claims.specs.Sequences.{Has, actions_of, time_at, Starts, Identifies}
use Rattle.events_claims.proofs.Times.{times-same, times_rise, has_at}
use Rattle.events_claims.specs.Tokens.{no_token}
use Rattle.events_claims.proofs.Tokens.{es, shaped, token-is, start-event, end-event, start-token, start_has, token-starts}
use Rattle.events_claims.proofs.Closed.{rise, place, identified, identifies}
use Rattle.events_claims.specs.Graphs.{own_edge, graph_of, Pair, no_pair, pair_of, start, end, EdgeHolds, MatchesAt}
use Rattle.choice.specs.Met.{nobody}
use Rattle.claims.specs.Papers.{token_of, On, no_name, no_statement, Maps, Met}
use Rattle.events_claims.specs.Lemma.{Listed, One}

pub listed : {A : Type 0} (R : ℕ → A → Type 0) (d : A) (n : ℕ) → ((i : ℕ) → i < n → One (R i)) → Listed R d n
listed R d zero h = record { list = []; long = refl; each = λ i l. absurd (omega arith) }
listed R d (suc n) h =
    let first = h 0 (omega arith) in
    let rest = listed (λ i a. R (suc i) a) d n (λ i l. h (suc i) (omega arith)) in
    record { list = first.one ∷ rest.list; long = ap suc rest.long; each = λ i l. both R d n first.one first.is rest i l }
  where
    both : {A : Type 0} (R : ℕ → A → Type 0) (d : A) (n : ℕ) (a : A) → R 0 a → (rest : Listed (λ i x. R (suc i) x) d n) → (i : ℕ) → i < suc n
        → R i (get_or (a ∷ rest.list) i d)
    both R d n a h rest zero l = h
    both R d n a h rest (suc i) l = rest.each i (omega arith)

-- ---- a token and its events

module _ (b p : List ℕ) (w : Writes b p) where
  abbrev E : List Event
  E = es b p w

  -- the events of a name's start and end are those of a token, which is of the variable and value
  pub record Fit (x v : ℕ) (t : Token) (q : Pair) : Type 0 where
    pub identifies : Identifies E x v q.start q.end
    pub on : On (line_of p x) t
    pub value : t.value ≡ v
    pub starts : t.start.tick ≡ time_at E q.start
    pub ends : t.end.tick ≡ time_at E q.end
    pub job : Has (action x v 1 t.job) (actions_of E q.start)

  for_value : (x v u i j : ℕ) → u ≡ v → Identifies E x u i j → Identifies E x v i j
  for_value x v u i j e h = rw e at h

  -- the action that starts a token has its job
  job_has : (x v job m i : ℕ) → x < count b 0 → m < line_count p x → i < length E → start_of p x m ≡ time_at E i → value_of p x m ≡ v → job_of p x m ≡ job
      → Has (action x v 1 job) (actions_of E i)
  job_has x v job m i h l k e u j = rw (u, j) at (start_has b p w x m i h l k e)

  -- each token has its events
  pub events_of_lem : (x : ℕ) (t : Token) → x < count b 0 → On (line_of p x) t → One (Fit x t.value t)
  events_of_lem x t h o =
      let long = line-length p x in
      let r = place b p w x t (has_at t (line_of p x) o.number nobody o.below o.is) in
      let s = start-event b p w x r.number h r.below in
      let e = end-event b p w x r.number h r.below in
      let value : t.value ≡ value_of p x r.number = ap (λ (t : Token). t.value) r.is in
      record {
        one = record { start = s.index; end = e.index };
        is = record {
          identifies = for_value x t.value (value_of p x r.number) s.index e.index (sym value)
              (identifies b p w x s.index e.index r.number h r.below s.below e.below (sym s.time) (sym e.time));
          on = o;
          value = refl;
          starts = ap (λ (t : Token). t.start.tick) r.is ∙ sym s.time;
          ends = ap (λ (t : Token). t.end.tick) r.is ∙ sym e.time;
          job = job_has x t.value t.job r.number s.index h r.below s.below (sym s.time) (sym value)
              (sym (ap (λ (t : Token). t.job) r.is));
        };
      }

  -- token m of line x
  on_line : (x m : ℕ) → m < line_count p x → On (line_of p x) (token (value_of p x m) (start_of p x m) (start_of p x (m + 1)) (job_of p x m))
  on_line x m l =
      let long = line-length p x in
      record { number = m; below = omega (arith, l, long); is = same (line_of p x) m (omega (arith, l, long)) ∙ token-is b p w x m l }
    where
      same : (l : List Token) (i : ℕ) → i < length l → get_or l i nobody ≡ get_or l i no_token
      same [] i h = absurd (omega arith)
      same (t ∷ l) zero h = refl
      same (t ∷ l) (suc i) h = same l i (omega arith)

  -- and events that identify a token have it
  pub token_of_lem : (x v : ℕ) (q : Pair) → Identifies E x v q.start q.end → One (λ (t : Token). Fit x v t q)
  token_of_lem x v q d =
      let r = identified b p w x v q.start q.end d in
      record {
        one = token (value_of p x r.number) (start_of p x r.number) (start_of p x (r.number + 1)) (job_of p x r.number);
        is = record {
          identifies = d;
          on = on_line x r.number r.below;
          value = r.value;
          starts = r.starts;
          ends = r.ends;
          job = job_has x v
              (job_of p x r.number) r.number q.start r.line r.below d.start.below r.starts r.value refl;
        };
      }

  -- ---- the lemma, of any rule whose atoms hold for tokens as their edges do for the tokens' events

  -- a mapping of tokens and a matching function, name by name
  pub record Agree (names : List Name) (mapping : List Token) (γ : List Pair) : Type 0 where
    pub tokens : length mapping ≡ length names
    pub pairs : length γ ≡ length names
    pub fit : (a : ℕ) → a < length names → Fit (get_or names a no_name).variable (get_or names a no_name).value (token_of mapping a) (pair_of γ a)

  -- the edge from a token's start to its end holds
  own_holds : (names : List Name) (mapping : List Token) (γ : List Pair) → Agree names mapping γ → (a : ℕ) → a < length names
      → EdgeHolds E names γ (own_edge a)
  own_holds names mapping γ g a l =
      let f = g.fit a l in
      let up = times_rise E (shaped b p w) (pair_of γ a).start (pair_of γ a).end f.identifies.order f.identifies.end.below in
      record {
        times = λ n.
            record {
              left = time_at E (pair_of γ a).start;
              right = time_at E (pair_of γ a).end;
              is_left = start a;
              is_right = end a;
              lower = at_least (time_at E (pair_of γ a).start) (time_at E (pair_of γ a).end) 0
                  ∙ le-leb (time_at E (pair_of γ a).start + 0) (time_at E (pair_of γ a).end) (omega (arith, up));
              upper = inl refl;
            };
        jobs = λ e. absurd (omega (arith, e));
      }

  -- what holds of each record of two lists, and of a run
  all_both : {A : Type 0} (P : A → Type 0) (xs ys : List A) → All P xs → All P ys → All P (xs ++ ys)
  all_both P [] ys h k = k
  all_both P (x ∷ xs) ys h k = (h.0, all_both P xs ys h.1 k)

  all_first : {A : Type 0} (P : A → Type 0) (xs ys : List A) → All P (xs ++ ys) → All P xs
  all_first P [] ys h = tt
  all_first P (x ∷ xs) ys h = (h.0, all_first P xs ys h.1)

  own_edges : (P : Atom → Type 0) (n k : ℕ) → ((a : ℕ) → k ≤ a → a < k + n → P (own_edge a)) → All P (run own_edge 1 n k)
  unfolding run
  own_edges P zero k h = tt
  own_edges P (suc n) k h = (h k (omega arith) (omega arith), own_edges P n (k + 1) (λ a l m. h a (omega arith) (omega arith)))

  -- tokens of a line that start together are one
  same_start : (x m n : ℕ) → x < count b 0 → m < line_count p x → n < line_count p x → start_of p x m ≡ start_of p x n → m ≡ n
  same_start x m n h k l e =
      elim (dec_lt m n) [
        | yes q ↦ let r = rise b p w x m n h q (omega (arith, l)) in absurd (omega (arith, r, e))
        | no q ↦ elim (dec_lt n m) [ yes c ↦ let r = rise b p w x n m h c (omega (arith, k)) in absurd (omega (arith, r, e)) | no c ↦ omega arith ]
      ]

  -- said of another value
  fit_value : (x v : ℕ) (t : Token) → t.value ≡ v → One (Fit x t.value t) → One (Fit x v t)
  fit_value x v t e o =
      record {
        one = o.one;
        is = record {
          identifies = for_value x v t.value o.one.start o.one.end e o.is.identifies;
          on = o.is.on;
          value = e;
          starts = o.is.starts;
          ends = o.is.ends;
          job = rw e at o.is.job;
        };
      }

  -- events that identify a token of line x which starts when t does identify t
  pub same-token : (x v : ℕ) (t : Token) (q : Pair) → x < count b 0 → On (line_of p x) t → t.value ≡ v → Identifies E x v q.start q.end
      → t.start.tick ≡ time_at E q.start
      → Fit x v t q
  same-token x v t q h on value d time =
      let r = place b p w x t (has_at t (line_of p x) on.number nobody on.below on.is) in
      let c = identified b p w x v q.start q.end d in
      let start : t.start.tick ≡ start_of p x r.number = ap (λ (t : Token). t.start.tick) r.is in
      let m : r.number ≡ c.number = same_start x r.number c.number h r.below c.below (sym start ∙ time ∙ sym c.starts) in
      record {
        identifies = d;
        on = on;
        value = value;
        starts = time;
        ends = ap (λ (t : Token). t.end.tick) r.is ∙ ap (λ (k : ℕ). start_of p x (k + 1)) m ∙ c.ends;
        job = job_has x v t.job r.number q.start h r.below d.start.below (sym start ∙ time)
            (sym (ap (λ (t : Token). t.value) r.is) ∙ value) (sym (ap (λ (t : Token). t.job) r.is));
      }

  -- and no other job
  pub job_one : (x v job : ℕ) (t : Token) (q : Pair) → Fit x v t q → Has (action x v 1 job) (actions_of E q.start) → job ≡ t.job
  job_one x v job t q f has =
      let a : Starts E x v q.start = record { below = f.identifies.start.below; job = job; has = has } in
      let c = start-token b p w x v q.start a in
      let r = place b p w x t (has_at t (line_of p x) f.on.number nobody f.on.below f.on.is) in
      let start : t.start.tick ≡ start_of p x r.number = ap (λ (t : Token). t.start.tick) r.is in
      let there : start_of p x c.number ≡ time_at E q.start = ap (start_of p x) (sym (add-zero c.number)) ∙ c.time in
      let m : c.number ≡ r.number = same_start x c.number r.number c.line c.below r.below (there ∙ sym f.starts ∙ start) in
      sym c.has ∙ ap (job_of p x) m ∙ sym (ap (λ (t : Token). t.job) r.is)

  module _ (Holds : List Token → Atom → Type 0) (rule : Rule Atom) where
    abbrev statement : ℕ → Alternative Atom
    statement k = get_or rule.alternatives k no_statement

    -- "a_0[x_0 = v_0]" and the statement's names
    abbrev names : ℕ → List Name
    names k = record { variable = rule.variable; value = rule.value } ∷ (statement k).names

    -- what the lemma asks of a rule: its variables are the book's, and its clauses hold for tokens as their edges do for those tokens' events
    pub record Suits : Type 0 where
      pub trigger : rule.variable < count b 0
      pub variables : (k : ℕ) → k < length rule.alternatives → (i : ℕ) → i < length (statement k).names
          → (get_or (statement k).names i no_name).variable < count b 0
      pub clauses : (k : ℕ) → k < length rule.alternatives → (mapping : List Token) (γ : List Pair) → Agree (names k) mapping γ
          → All (Holds mapping) (statement k).asks ↔ All (EdgeHolds E (names k) γ) (statement k).asks

    module _ (s : Suits) where
      -- a token mapping that meets a statement gives a matching function
      matching : (t : Token) → On (line_of p rule.variable) t → t.value ≡ rule.value → (k : ℕ) → k < length rule.alternatives
          → (tokens : List Token)
          → Maps Holds (line_of p) t (statement k) tokens → (i : ℕ) → i < length E → t.start.tick ≡ time_at E i → MatchesAt E rule i
      unfolding graph_of
      matching t on value k below tokens maps i inside time =
          let n : length (t ∷ tokens) ≡ length (names k) = ap suc maps.long in
          let pairs = listed (λ a q. Fit (get_or (names k) a no_name).variable (get_or (names k) a no_name).value (token_of (t ∷ tokens) a) q) no_pair
          (length (names k))
          (fits t on value k below tokens maps) in
          let g : Agree (names k) (t ∷ tokens) pairs.list = record { tokens = n; pairs = pairs.long; fit = pairs.each } in
          let first = pairs.each 0 (omega arith) in
          record {
            which = k;
            below = below;
            γ = pairs.list;
            matches = record {
              long = pairs.long;
              token = λ a l. (pairs.each a (omega (arith, l, pairs.long))).identifies;
              edges = all_both (EdgeHolds E (names k) pairs.list) (statement k).asks (run own_edge 1 (suc (length (statement k).names)) 0)
                  ((s.clauses k below (t ∷ tokens) pairs.list g).0 maps.clause)
                  (own_edges (EdgeHolds E (names k) pairs.list) (suc (length (statement k).names)) 0
                  (λ a l m. own_holds (names k) (t ∷ tokens) pairs.list g a (omega (arith, m))));
            };
            trigger = times-same E (shaped b p w) (pair_of pairs.list 0).start i first.identifies.start.below inside (sym first.starts
                ∙ time);
          }
        where
          fits : (t : Token) → On (line_of p rule.variable) t → t.value ≡ rule.value → (k : ℕ) → k < length rule.alternatives
              → (tokens : List Token)
              → Maps Holds (line_of p) t (statement k) tokens → (a : ℕ) → a < length (names k)
              → One (λ (q : Pair). Fit (get_or (names k) a no_name).variable (get_or (names k) a no_name).value (token_of (t ∷ tokens) a) q)
          fits t on value k below tokens maps zero l = fit_value rule.variable rule.value t value (events_of_lem rule.variable t s.trigger on)
          fits t on value k below tokens maps (suc j) l =
              let m : j < length tokens = omega (arith, l, maps.long) in
              fit_value (get_or (statement k).names j no_name).variable (get_or (statement k).names j no_name).value (token_of tokens j)
              (maps.value j m)
              (events_of_lem (get_or (statement k).names j no_name).variable (token_of tokens j) (s.variables k below j (omega arith)) (maps.on j m))

      -- and a matching function gives a token mapping
      mapping : (t : Token) → On (line_of p rule.variable) t → t.value ≡ rule.value → (i : ℕ) → t.start.tick ≡ time_at E i → MatchesAt E rule i
          → Met Holds (line_of p) rule t
      unfolding graph_of
      mapping t on value i time m =
          let k : ℕ = m.which in
          let g = m.matches in
          let first = same-token rule.variable rule.value t (pair_of m.γ 0) s.trigger on value (g.token 0 (omega (arith, g.long))) (time ∙ ap (time_at E) (sym m.trigger)) in
          let rest = listed (λ j u. Fit (get_or (statement k).names j no_name).variable (get_or (statement k).names j no_name).value u
          (pair_of m.γ (suc j))) nobody (length (statement k).names)
          (λ j l. token_of_lem (get_or (statement k).names j no_name).variable (get_or (statement k).names j no_name).value (pair_of m.γ (suc j))
          (g.token (suc j) (omega (arith, l, g.long)))) in
          let agree : Agree (names k) (t ∷ rest.list) m.γ = record {
            tokens = ap suc rest.long;
            pairs = g.long;
            fit = both k t rest.list
                m.γ first rest.each;
          } in
          record {
            which = k;
            below = m.below;
            tokens = rest.list;
            maps = record {
              long = rest.long;
              on = λ j l. (rest.each j (omega (arith, l, rest.long))).on;
              value = λ j l. (rest.each j (omega (arith, l, rest.long))).value;
              clause = (s.clauses k m.below (t ∷ rest.list) m.γ agree).1
                  (all_first (EdgeHolds E (names k) m.γ) (statement k).asks (run own_edge 1 (suc (length (statement k).names)) 0) g.edges);
            };
          }
        where
          both : (k : ℕ) (t : Token) (l : List Token) (γ : List Pair) → Fit rule.variable rule.value t (pair_of γ 0)
              → ((j : ℕ) → j < length (statement k).names → Fit (get_or (statement k).names j no_name).variable
              (get_or (statement k).names j no_name).value (token_of l j) (pair_of γ (suc j)))
              → (a : ℕ) → a < length (names k) → Fit (get_or (names k) a no_name).variable (get_or (names k) a no_name).value (token_of (t ∷ l) a)
              (pair_of γ a)
          both k t l γ f r zero h = f
          both k t l γ f r (suc j) h = r j (omega arith)

      -- THE LEMMA
      pub lemma : ((t : Token) → On (line_of p rule.variable) t → t.value ≡ rule.value → Met Holds (line_of p) rule t) ↔
          ((i : ℕ) → Starts E rule.variable rule.value i → MatchesAt E rule i)
      lemma = (
        λ h i a.
            let r = start-token b p w rule.variable rule.value i a in
            let t : Token = token (value_of p rule.variable r.number) (start_of p rule.variable r.number)
            (start_of p rule.variable (r.number + 1)) (job_of p rule.variable r.number) in
            let on = on_line rule.variable r.number r.below in
            let met = h t on r.value in
            matching t on r.value met.which met.below met.tokens met.maps i a.below
            (ap (start_of p rule.variable) (sym (add-zero r.number)) ∙ r.time),
        λ h t on value.
            let r = place b p w rule.variable t (has_at t (line_of p rule.variable) on.number nobody on.below on.is) in
            let e = start-event b p w rule.variable r.number s.trigger r.below in
            let is : value_of p rule.variable r.number ≡ rule.value = sym (ap (λ (t : Token). t.value) r.is) ∙ value in
            let acts : Starts E rule.variable rule.value e.index = rw is at
            (token-starts b p w rule.variable r.number e.index s.trigger r.below e.below (sym e.time)) in
            mapping t on value e.index (ap (λ (t : Token). t.start.tick) r.is ∙ sym e.time) (h e.index acts),
      )
