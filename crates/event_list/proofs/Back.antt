-- Reading the events of lines that end together gives the lines back. Assumes nothing.
use mathlib.Core.Path.{◌≡◌, refl, sym, ap, ◌∙◌}
use mathlib.Core.Bool.{Bool, true, false, ◌&&◌, cond}
use mathlib.Core.List.{List, [], ◌∷◌, ◌++◌, map, append-nil}
use Prim.Native.Nat.{ℕ, zero, suc, ◌+◌, ◌-◌, ◌≤◌, ◌<◌}
use native.Mathlib.Nat.{add-zero, zero-add}
use native.Mathlib.Omega.{arith}
use lib.Dec.{leb, eqb}
use lib.ListN.{length, get_or, get_or-map, length-map}
use borrow.Author.Tests.{leb-true, leb-false, le-leb, eqb-true, eqb-false, eq-eqb, ne_eqb}
use Rattle.words.specs.Lists.{All}
use Rattle.words.specs.Runs.{run}
use Rattle.clock.specs.Clock.{no_limit}
use Rattle.event_list.specs.Events.{PlanToken, Action, Event, Line, plan_token, event, end, to_run, start_on, change_on, later, by_line, lesser, soonest, sweep, line_ticks, plan_ticks, events_of}
use Rattle.event_list.specs.Reading.{add_ticks}

-- ---- the lines that are written

-- a line of E ticks, whose tokens all last
pub record Ends (E : ℕ) (l : Line) : Type 0 where
  pub long : All (λ (t : PlanToken). 0 < t.duration) l
  pub end : line_ticks l ≡ E

-- "all timelines of a plan end together"
unfoldable pub Together : List Line → Type 0
Together ls = All (Ends (plan_ticks ls)) ls

-- ---- reading events, line by line

-- an action is an end on line x
unfoldable pub is_end : ℕ → Action → Bool
is_end x a = eqb a.line x && eqb a.kind 0

-- the tokens of line x that an event's actions close, `ticks` after the last end there; and the ticks afterwards
unfoldable pub tokens_in : ℕ → ℕ → List Action → Line
tokens_in x ticks [] = []
tokens_in x ticks (a ∷ rest) = cond (is_end x a) (plan_token a.value ticks a.job ∷ tokens_in x 0 rest) (tokens_in x ticks rest)

unfoldable pub ticks_after : ℕ → ℕ → List Action → ℕ
ticks_after x ticks [] = ticks
ticks_after x ticks (a ∷ rest) = ticks_after x (cond (is_end x a) 0 ticks) rest

-- line x of events
unfoldable pub line_from : ℕ → ℕ → List Event → Line
line_from x ticks [] = []
line_from x ticks (e ∷ es) =
    let now = add_ticks ticks e.delay in
    tokens_in x now e.actions ++ line_from x (ticks_after x now e.actions) es

-- ---- what ends on line x

-- two stretches of actions, one behind the other
tokens_append : (x r : ℕ) (p q : List Action) → tokens_in x r (p ++ q) ≡ tokens_in x r p ++ tokens_in x (ticks_after x r p) q
unfolding tokens_in ticks_after
tokens_append x r [] q = refl
tokens_append x r (a ∷ p) q = by (is_end x a) (tokens_append x 0 p q) (tokens_append x r p q)
  where
    by : (b : Bool) → tokens_in x 0 (p ++ q) ≡ tokens_in x 0 p ++ tokens_in x (ticks_after x 0 p) q
        → tokens_in x r (p ++ q) ≡ tokens_in x r p ++ tokens_in x (ticks_after x r p) q
        → cond b (plan_token a.value r a.job ∷ tokens_in x 0 (p ++ q)) (tokens_in x r (p ++ q))
        ≡ cond b (plan_token a.value r a.job ∷ tokens_in x 0 p) (tokens_in x r p) ++ tokens_in x (ticks_after x (cond b 0 r) p) q
    by true h k = rw h
    by false h k = k

ticks_append : (x r : ℕ) (p q : List Action) → ticks_after x r (p ++ q) ≡ ticks_after x (ticks_after x r p) q
unfolding ticks_after
ticks_append x r [] q = refl
ticks_append x r (a ∷ p) q = ticks_append x (cond (is_end x a) 0 r) p q

-- behind an end on line x, and behind another action
ticks_end : (x r : ℕ) (a : Action) (rest : List Action) → is_end x a ≡ true → ticks_after x r (a ∷ rest) ≡ ticks_after x 0 rest
unfolding ticks_after
ticks_end x r a rest h = ap (λ (b : Bool). ticks_after x (cond b 0 r) rest) h

ticks_other : (x r : ℕ) (a : Action) (rest : List Action) → is_end x a ≡ false → ticks_after x r (a ∷ rest) ≡ ticks_after x r rest
unfolding ticks_after
ticks_other x r a rest h = ap (λ (b : Bool). ticks_after x (cond b 0 r) rest) h

-- actions that leave line x alone
record Idle (x : ℕ) (p : List Action) : Type 0 where
  tokens : (r : ℕ) → tokens_in x r p ≡ []
  ticks : (r : ℕ) → ticks_after x r p ≡ r

idle_append : (x : ℕ) (p q : List Action) → Idle x p → Idle x q → Idle x (p ++ q)
idle_append x p q h k = record {
  tokens = λ r. tokens_append x r p q ∙ rw (h.tokens r, h.ticks r, k.tokens r);
  ticks = λ r. ticks_append x r p q ∙ rw (h.ticks r, k.ticks r);
}

idle_none : (x : ℕ) → Idle x []
unfolding tokens_in ticks_after
idle_none x = record { tokens = λ r. refl; ticks = λ r. refl }

-- a start is no end
idle_start : (x k : ℕ) (l : Line) → Idle x (start_on k l)
unfolding tokens_in ticks_after start_on is_end
idle_start x k [] = record { tokens = λ r. refl; ticks = λ r. refl }
idle_start x k (t ∷ ts) = record { tokens = λ r. simp and-false; ticks = λ r. simp and-false }
  where
    and-false : (a : Bool) → (a && false) ≡ false
    and-false true = refl
    and-false false = refl

idle_starts : (x k : ℕ) (ls : List Line) → Idle x (by_line start_on k ls)
unfolding by_line
idle_starts x k [] = idle_none x
idle_starts x k (l ∷ ls) = idle_append x (start_on k l) (by_line start_on (k + 1) ls) (idle_start x k l) (idle_starts x (k + 1) ls)

-- what a line's own change closes, and the ticks afterwards
unfoldable closed_now : ℕ → ℕ → Line → Line
closed_now m r [] = []
closed_now m r (t ∷ ts) = cond (eqb t.duration m) (plan_token t.value r t.job ∷ []) []

unfoldable ticks_now : ℕ → ℕ → Line → ℕ
ticks_now m r [] = r
ticks_now m r (t ∷ ts) = cond (eqb t.duration m) 0 r

module _ (m : ℕ) where
  -- on another line
  idle_other : (x k : ℕ) (l : Line) → (k ≡ x → ⊥) → Idle x (change_on m k l)
  unfolding change_on tokens_in ticks_after is_end
  idle_other x k [] h = idle_none x
  idle_other x k (t ∷ ts) h = by (eqb t.duration m)
    where
      by : (b : Bool) → Idle x (cond b (end k t ∷ start_on k ts) [])
      by true =
          let s = idle_start x k ts in
          record {
            tokens = λ r. rw (ne_eqb k x h) (s.tokens r);
            ticks = λ r. ticks_other x r (end k t) (start_on k ts) (rw (ne_eqb k x h)) ∙ s.ticks r;
          }
      by false = idle_none x

  idle_past : (x k : ℕ) (ls : List Line) → x < k → Idle x (by_line (change_on m) k ls)
  unfolding by_line
  idle_past x k [] h = idle_none x
  idle_past x k (l ∷ ls) h =
      idle_append x (change_on m k l) (by_line (change_on m) (k + 1) ls) (idle_other x k l (λ e. omega arith)) (idle_past x (k + 1) ls (omega arith))

  -- on the line itself
  own_tokens : (k r : ℕ) (l : Line) → tokens_in k r (change_on m k l) ≡ closed_now m r l
  unfolding change_on tokens_in closed_now is_end
  own_tokens k r [] = refl
  own_tokens k r (t ∷ ts) = by (eqb t.duration m)
    where
      by : (b : Bool) → tokens_in k r (cond b (end k t ∷ start_on k ts) []) ≡ cond b (plan_token t.value r t.job ∷ []) []
      by true = rw (eq-eqb k k refl, (idle_start k k ts).tokens 0)
      by false = refl

  own_ticks : (k r : ℕ) (l : Line) → ticks_after k r (change_on m k l) ≡ ticks_now m r l
  unfolding change_on ticks_after ticks_now is_end
  own_ticks k r [] = refl
  own_ticks k r (t ∷ ts) = by (eqb t.duration m)
    where
      by : (b : Bool) → ticks_after k r (cond b (end k t ∷ start_on k ts) []) ≡ cond b 0 r
      by true = ticks_end k r (end k t) (start_on k ts) (rw (eq-eqb k k refl)) ∙ (idle_start k k ts).ticks 0
      by false = refl

  -- among all lines: only its own counts
  line_tokens_lem : (k i r : ℕ) (ls : List Line) → tokens_in (k + i) r (by_line (change_on m) k ls) ≡ closed_now m r (get_or ls i [])
  unfolding by_line tokens_in closed_now
  line_tokens_lem k i r [] = refl
  line_tokens_lem k zero r (l ∷ ls) =
      tokens_append (k + 0) r (change_on m k l) (by_line (change_on m) (k + 1) ls)
      ∙ rw ((idle_past (k + 0) (k + 1) ls (omega arith)).tokens (ticks_after (k + 0) r (change_on m k l)), add-zero k, own_tokens k r l)
      (append-nil (closed_now m r l))
  line_tokens_lem k (suc i) r (l ∷ ls) =
      let e : k + suc i ≡ k + 1 + i = omega arith in
      let o = idle_other (k + suc i) k l (λ e. omega arith) in
      tokens_append (k + suc i) r (change_on m k l) (by_line (change_on m) (k + 1) ls)
      ∙ rw (o.tokens r, o.ticks r, e) (line_tokens_lem (k + 1) i r ls)

  line_ticks_lem : (k i r : ℕ) (ls : List Line) → ticks_after (k + i) r (by_line (change_on m) k ls) ≡ ticks_now m r (get_or ls i [])
  unfolding by_line ticks_after ticks_now
  line_ticks_lem k i r [] = refl
  line_ticks_lem k zero r (l ∷ ls) =
      ticks_append (k + 0) r (change_on m k l) (by_line (change_on m) (k + 1) ls)
      ∙ rw ((idle_past (k + 0) (k + 1) ls (omega arith)).ticks (ticks_after (k + 0) r (change_on m k l)), add-zero k, own_ticks k r l)
  line_ticks_lem k (suc i) r (l ∷ ls) =
      let e : k + suc i ≡ k + 1 + i = omega arith in
      let o = idle_other (k + suc i) k l (λ e. omega arith) in
      ticks_append (k + suc i) r (change_on m k l) (by_line (change_on m) (k + 1) ls)
      ∙ rw (o.ticks r, e) (line_ticks_lem (k + 1) i r ls)

-- ---- the sweep

-- a line whose running token has run for r ticks already, as it was when that token started
unfoldable grow : ℕ → Line → Line
grow r [] = []
grow r (t ∷ ts) = plan_token t.value (r + t.duration) t.job ∷ ts

grow-zero : (l : Line) → grow 0 l ≡ l
unfolding grow
grow-zero [] = refl
grow-zero (t ∷ ts) = rw (zero-add t.duration)

-- the lesser of two
pub lesser-left : (a b : ℕ) → lesser a b ≤ a
lesser-left a b = by (leb a b) refl
  where
    by : (t : Bool) → leb a b ≡ t → cond t a b ≤ a
    by true e = omega arith
    by false e = omega (arith, leb-false a b e)

pub lesser_right : (a b : ℕ) → lesser a b ≤ b
lesser_right a b = by (leb a b) refl
  where
    by : (t : Bool) → leb a b ≡ t → cond t a b ≤ b
    by true e = leb-true a b e
    by false e = omega arith

pub lesser-pos : (a b : ℕ) → 0 < a → 0 < b → 0 < lesser a b
lesser-pos a b p q = by (leb a b)
  where
    by : (t : Bool) → 0 < cond t a b
    by true = p
    by false = q

-- the next end is no later than any
pub soonest_le : (n m : ℕ) (ls : List Line) → m ≤ soonest n ls → All (λ (l : Line). m ≤ to_run l) ls
unfolding soonest
soonest_le n m [] h = tt
soonest_le n m (l ∷ ls) h =
    let a = lesser-left (to_run l) (soonest n ls) in
    let b = lesser_right (to_run l) (soonest n ls) in
    (omega (arith, a, h), soonest_le n m ls (omega (arith, b, h)))

-- of a line that ends later than now, something runs; and of one that ends now, nothing is left
runs : (E : ℕ) (l : Line) → Ends E l → 0 < E → 0 < to_run l
unfolding to_run line_ticks
runs E [] h p = absurd (omega (arith, h.end))
runs E (t ∷ ts) h p = h.long.0

pub run_le : (E : ℕ) (l : Line) → Ends E l → to_run l ≤ E
unfolding to_run line_ticks
run_le E [] h = omega arith
run_le E (t ∷ ts) h = omega (arith, h.end)

pub none_left : (l : Line) → Ends 0 l → l ≡ []
unfolding line_ticks
none_left [] h = refl
none_left (t ∷ ts) h = absurd (omega (arith, h.end, h.long.0))

-- m ticks later it ends m ticks earlier
later-ends : (m E : ℕ) (l : Line) → Ends E l → m ≤ to_run l → 0 < m → Ends (E - m) (later m l)
unfolding later line_ticks to_run
later-ends m E [] h le p = absurd (omega arith)
later-ends m E (t ∷ ts) h le p = by (eqb t.duration m) refl
  where
    by : (b : Bool) → eqb t.duration m ≡ b → Ends (E - m) (cond b ts (plan_token t.value (t.duration - m) t.job ∷ ts))
    by true e = record { long = h.long.1; end = omega (arith, h.end, eqb-true t.duration m e) }
    by false e =
        let ne : t.duration ≡ m → ⊥ = eqb-false t.duration m e in
        record { long = (omega (arith, ne), h.long.1); end = omega (arith, h.end) }

-- ticks that stay below N
pub add_small : (r d : ℕ) → r + d ≤ no_limit → add_ticks r d ≡ r + d
unfolding add_ticks
add_small r d h = rw (le-leb (r + d) no_limit h)

-- one event: if reading from the next on gives what is then left, reading from this one on gives what is left now
module _ (x m E : ℕ) (es : List Event) (actions : List Action) where
  read_step : (l : Line) → ((r : ℕ) → tokens_in x r actions ≡ closed_now m r l) → ((r : ℕ) → ticks_after x r actions ≡ ticks_now m r l)
      → ((r : ℕ) → r + (E - m) ≤ no_limit → line_from x r es ≡ grow r (later m l)) → 0 < m → m ≤ to_run l → m ≤ E
      → (r : ℕ) → r + E ≤ no_limit → line_from x r (event m actions ∷ es) ≡ grow r l
  unfolding closed_now ticks_now line_from grow later to_run
  read_step [] c k h p le f r small = absurd (omega arith)
  read_step (t ∷ ts) c k h p le f r small =
      rw (add_small r m (omega arith), c (r + m), k (r + m)) (by (eqb t.duration m) refl h)
    where
      by : (b : Bool) → eqb t.duration m ≡ b
          → ((r : ℕ) → r + (E - m) ≤ no_limit → line_from x r es ≡ grow r (cond b ts (plan_token t.value (t.duration - m) t.job ∷ ts)))
          → cond b (plan_token t.value (r + m) t.job ∷ []) [] ++ line_from x (cond b 0 (r + m)) es ≡ plan_token t.value (r + t.duration)
          t.job ∷ ts
      by true e g = rw (g 0 (omega arith), grow-zero ts, eqb-true t.duration m e)
      by false e g =
          let q : r + m + (t.duration - m) ≡ r + t.duration = omega arith in
          g (r + m) (omega arith) ∙ rw q

-- ---- the theorem

pub all-at : {A : Type 0} (P : A → Type 0) (d : A) (xs : List A) (i : ℕ) → All P xs → i < length xs → P (get_or xs i d)
all-at P d [] i h l = absurd (omega arith)
all-at P d (x ∷ xs) zero h l = h.0
all-at P d (x ∷ xs) (suc i) h l = all-at P d xs i h.1 (omega arith)

pub all-later : (m E : ℕ) → 0 < m → (ls : List Line) → All (Ends E) ls → All (λ (l : Line). m ≤ to_run l) ls → All (Ends (E - m)) (map (later m) ls)
all-later m E p [] h k = tt
all-later m E p (l ∷ ls) h k = (later-ends m E l h.0 k.0 p, all-later m E p ls h.1 k.1)

pub soonest-pos : (n E : ℕ) (ls : List Line) → 0 < n → 0 < E → All (Ends E) ls → 0 < soonest n ls
unfolding soonest
soonest-pos n E [] p q h = p
soonest-pos n E (l ∷ ls) p q h = lesser-pos (to_run l) (soonest n ls) (runs E l h.0 q) (soonest-pos n E ls p q h.1)

-- where the sweep ends, all lines do
pub at-end : (n E : ℕ) (ls : List Line) → soonest (suc n) ls ≡ 0 → All (Ends E) ls → E ≡ 0
at-end n zero ls e h = refl
at-end n (suc k) ls e h = absurd (omega (arith, e, soonest-pos (suc n) (suc k) ls (omega arith) (omega arith) h))

nothing : (E : ℕ) (ls : List Line) → E ≡ 0 → All (Ends E) ls → (x : ℕ) → x < length ls → (r : ℕ) → line_from x r [] ≡ grow r (get_or ls x [])
unfolding line_from grow
nothing E ls z h x lx r = rw (none_left (get_or ls x []) (rw z at (all-at (Ends E) [] ls x h lx)))

-- THE INVARIANT: reading line x from here on, where its token has run for r ticks, gives what is left of the line and those r ticks
sweep_back : (n E : ℕ) (ls : List Line) → E ≤ n → All (Ends E) ls → (x : ℕ) → x < length ls → (r : ℕ) → r + E ≤ no_limit
    → line_from x r (sweep n ls) ≡ grow r (get_or ls x [])
unfolding sweep later
sweep_back zero E ls le h x lx r small = nothing E ls (omega arith) h x lx r
sweep_back (suc n) E ls le h x lx r small =
    by (soonest (suc n) ls) refl
    (λ p q s k. sweep_back n (E - soonest (suc n) ls) (map (later (soonest (suc n) ls)) ls) (omega arith) (all-later _ E p ls h q) x
    (rw (length-map ls (later (soonest (suc n) ls))) lx) s k)
  where
    own : (m s : ℕ) → tokens_in x s (by_line (change_on m) 0 ls) ≡ closed_now m s (get_or ls x [])
    own m s = ap (λ (i : ℕ). tokens_in i s (by_line (change_on m) 0 ls)) (sym (zero-add x)) ∙ line_tokens_lem m 0 x s ls

    after : (m s : ℕ) → ticks_after x s (by_line (change_on m) 0 ls) ≡ ticks_now m s (get_or ls x [])
    after m s = ap (λ (i : ℕ). ticks_after i s (by_line (change_on m) 0 ls)) (sym (zero-add x)) ∙ line_ticks_lem m 0 x s ls

    by : (m : ℕ) → soonest (suc n) ls ≡ m
        → (0 < m → All (λ (l : Line). m ≤ to_run l) ls → (r : ℕ) → r + (E - m) ≤ no_limit → line_from x r (sweep n (map (later m) ls)) ≡ grow r
        (get_or (map (later m) ls) x []))
        → line_from x r (cond (eqb m 0) [] (event m (by_line (change_on m) 0 ls) ∷ sweep n (map (later m) ls))) ≡ grow r (get_or ls x [])
    by zero e ih = nothing E ls (at-end n E ls e h) h x lx r
    by (suc k) e ih =
        let q = soonest_le (suc n) (suc k) ls (omega (arith, e)) in
        let here = all-at (λ (l : Line). suc k ≤ to_run l) [] ls x q lx in
        let most = run_le E (get_or ls x []) (all-at (Ends E) [] ls x h lx) in
        rw (ne_eqb (suc k) 0 (λ z. omega (arith, z)))
        (read_step x (suc k) E (sweep n (map (later (suc k)) ls)) (by_line (change_on (suc k)) 0 ls) (get_or ls x []) (own (suc k)) (after (suc k))
        (λ s z. ih (omega arith) q s z ∙ ap (grow s) (get_or-map (later (suc k)) ls x []))
        (omega arith) here (omega (arith, here, most)) r small)

-- an event in which nothing of line x ends
read_idle : (x r : ℕ) (e : Event) (es : List Event) → Idle x e.actions → line_from x r (e ∷ es) ≡ line_from x (add_ticks r e.delay) es
unfolding line_from
read_idle x r e es h = rw (h.tokens (add_ticks r e.delay), h.ticks (add_ticks r e.delay), line_from)

-- THE THEOREM: line x of the events is line x
pub line_back : (ls : List Line) → Together ls → plan_ticks ls ≤ no_limit → (x : ℕ) → x < length ls → line_from x 0 (events_of ls) ≡ get_or ls x []
unfolding events_of Together
line_back ls h small x lx = by (eqb (plan_ticks ls) 0) refl ∙ grow-zero (get_or ls x [])
  where
    by : (b : Bool) → eqb (plan_ticks ls) 0 ≡ b → line_from x 0 (cond b [] (event 0 (by_line start_on 0 ls) ∷ sweep (plan_ticks ls) ls)) ≡ grow 0
        (get_or ls x [])
    by true e = nothing (plan_ticks ls) ls (eqb-true (plan_ticks ls) 0 e) h x lx 0
    by false e =
        read_idle x 0 (event 0 (by_line start_on 0 ls)) (sweep (plan_ticks ls) ls) (idle_starts x 0 ls)
        ∙ ap (λ (r : ℕ). line_from x r (sweep (plan_ticks ls) ls)) (add_small 0 0 (omega arith))
        ∙ sweep_back (plan_ticks ls) (plan_ticks ls) ls (omega arith) h x lx 0 (omega arith)

-- lines by their numbers
pub run-lines : (f : ℕ → Line) (k : ℕ) (ls : List Line) → ((i : ℕ) → i < length ls → f (k + i) ≡ get_or ls i []) → run f 1 (length ls) k ≡ ls
unfolding run
run-lines f k [] h = refl
run-lines f k (l ∷ ls) h =
    let here : f k ≡ l = ap f (sym (add-zero k)) ∙ h 0 (omega arith) in
    rw (here, run-lines f (k + 1) ls (λ i p. ap f (omega arith) ∙ h (suc i) (omega arith)))
