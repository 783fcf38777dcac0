-- What the events of a plan say: at each moment, of each timeline in its turn, the token that ends then and the token that starts then.
-- Assumes nothing.
use mathlib.Core.Path.{◌≡◌, refl, sym, ap, ◌∙◌}
use mathlib.Core.Bool.{Bool, true, false, cond}
use mathlib.Core.List.{List, [], ◌∷◌, ◌++◌, map, flat_map}
use Prim.Native.Nat.{ℕ, zero, suc, ◌+◌, ◌-◌, ◌≤◌, ◌<◌}
use native.Mathlib.Omega.{arith}
use lib.Dec.{ltb, leb, eqb}
use lib.ListN.{length, length-append, length-map}
use borrow.Author.Tests.{ltb-true, ltb-false, le-leb, eqb-true, eqb-false, lt-ltb, le-ltb, eq-eqb, ne_eqb}
use Rattle.words.specs.Words.{word}
use Rattle.words.specs.Lists.{All}
use Rattle.words.specs.Runs.{run}
use Rattle.lines.specs.Lines.{line_of, lines_of}
use Rattle.event_list.specs.Events.{PlanToken, Action, Event, Line, plan_token, event, end, to_run, start_on, change_on, later, by_line, soonest, sweep, line_ticks, plan_ticks, events_of}
use Rattle.event_list.specs.Moments.{actions_at, token_at_time, line_at_time, Later, Shaped}
use Rattle.event_list.specs.Plans.{line_tokens, plan_lines}
use Rattle.event_list.proofs.Back.{Ends, Together, none_left, run_le, soonest_le, all-later, at-end}
use Rattle.event_list.proofs.Timed.{timed, timed-line}

-- what happens on line k after T ticks, 1 or more: a token ends and the next starts
unfoldable line_after : ℕ → ℕ → Line → List Action
line_after T k [] = []
line_after T k (t ∷ ts) = cond (ltb T t.duration) [] (cond (eqb T t.duration) (end k t ∷ start_on k ts) (line_after (T - t.duration) k ts))

-- ---- laws of a line

ended_at : (T k : ℕ) (l : Line) → l ≡ [] → line_after T k l ≡ []
unfolding line_after
ended_at T k l e = rw e

before-end : (T k : ℕ) (l : Line) → T < to_run l → line_after T k l ≡ []
unfolding line_after to_run
before-end T k [] h = refl
before-end T k (t ∷ ts) h = rw (lt-ltb T t.duration h)

at_next : (m k : ℕ) (l : Line) → m ≤ to_run l → line_after m k l ≡ change_on m k l
unfolding line_after change_on to_run
at_next m k [] h = refl
at_next m k (t ∷ ts) h = by (eqb t.duration m) refl
  where
    by : (b : Bool) → eqb t.duration m ≡ b
        → cond (ltb m t.duration) [] (cond (eqb m t.duration) (end k t ∷ start_on k ts) (line_after (m - t.duration) k ts)) ≡ cond b
        (end k t ∷ start_on k ts) []
    by true e =
        let q : t.duration ≡ m = eqb-true t.duration m e in
        rw (le-ltb m t.duration (omega (arith, q)), eq-eqb m t.duration (sym q))
    by false e =
        let q : t.duration ≡ m → ⊥ = eqb-false t.duration m e in
        rw (lt-ltb m t.duration (omega (arith, q)))

-- tests of two differences
same_lt : (a b c : ℕ) → c ≤ a → c ≤ b → ltb (a - c) (b - c) ≡ ltb a b
same_lt a b c x y = on (ltb a b) refl
  where
    on : (u : Bool) → ltb a b ≡ u → ltb (a - c) (b - c) ≡ u
    on true e = let q = ltb-true a b e in lt-ltb (a - c) (b - c) (omega (arith, q))
    on false e = let q = ltb-false a b e in le-ltb (a - c) (b - c) (omega (arith, q))

same_eq : (a b c : ℕ) → c ≤ a → c ≤ b → eqb (a - c) (b - c) ≡ eqb a b
same_eq a b c x y = on (eqb a b) refl
  where
    on : (u : Bool) → eqb a b ≡ u → eqb (a - c) (b - c) ≡ u
    on true e = let q = eqb-true a b e in eq-eqb (a - c) (b - c) (omega (arith, q))
    on false e = let q : a ≡ b → ⊥ = eqb-false a b e in ne_eqb (a - c) (b - c) (λ z. q (omega (arith, z)))

after_next : (T m k : ℕ) (l : Line) → m ≤ to_run l → m < T → line_after (T - m) k (later m l) ≡ line_after T k l
unfolding line_after later to_run
after_next T m k [] h p = refl
after_next T m k (t ∷ ts) h p = by (eqb t.duration m) refl
  where
    by : (b : Bool) → eqb t.duration m ≡ b → line_after (T - m) k (cond b ts (plan_token t.value (t.duration - m) t.job ∷ ts))
        ≡ cond (ltb T t.duration) [] (cond (eqb T t.duration) (end k t ∷ start_on k ts) (line_after (T - t.duration) k ts))
    by true e =
        let q : t.duration ≡ m = eqb-true t.duration m e in
        rw (q, le-ltb T m (omega arith), ne_eqb T m (λ z. omega (arith, z)))
    by false e =
        let d : T - m - (t.duration - m) ≡ T - t.duration = omega arith in
        rw (same_lt T t.duration m (omega arith) h, same_eq T t.duration m (omega arith) h, d)

-- ---- of all lines

module _ {A : Type 0} where
  by-same : (f g : ℕ → A → List Action) (P : A → Type 0) → ((k : ℕ) (l : A) → P l → f k l ≡ g k l)
      → (k : ℕ) (ls : List A) → All P ls → by_line f k ls ≡ by_line g k ls
  unfolding by_line
  by-same f g P h k [] a = refl
  by-same f g P h k (l ∷ ls) a = rw (h k l a.0, by-same f g P h (k + 1) ls a.1)

  by-none : (f : ℕ → A → List Action) (P : A → Type 0) → ((k : ℕ) (l : A) → P l → f k l ≡ [])
      → (k : ℕ) (ls : List A) → All P ls → by_line f k ls ≡ []
  unfolding by_line
  by-none f P h k [] a = refl
  by-none f P h k (l ∷ ls) a = rw (h k l a.0, by-none f P h (k + 1) ls a.1)

by_map : {A B : Type 0} (f : ℕ → B → List Action) (g : A → B) (k : ℕ) (ls : List A) → by_line f k (map g ls) ≡ by_line (λ j l. f j (g l)) k ls
unfolding by_line
by_map f g k [] = refl
by_map f g k (l ∷ ls) = rw (by_map f g (k + 1) ls)

over : (T E : ℕ) (ls : List Line) → E ≡ 0 → All (Ends E) ls → by_line (line_after T) 0 ls ≡ []
over T E ls z h = by-none (line_after T) (Ends 0) (λ k l e. ended_at T k l (none_left l e)) 0 ls (rw z at h)

-- ---- the theorem

-- from here on: at each later moment the events say what happens on each line
sweep-at : (n E : ℕ) (ls : List Line) → E ≤ n → All (Ends E) ls → (T : ℕ) → 0 < T → actions_at T (sweep n ls) ≡ by_line (line_after T) 0 ls
unfolding sweep actions_at
sweep-at zero E ls le h T p = sym (over T E ls (omega arith) h)
sweep-at (suc n) E ls le h T p =
    by (soonest (suc n) ls) refl
    (λ q k. sweep-at n (E - soonest (suc n) ls) (map (later (soonest (suc n) ls)) ls) (omega arith) (all-later (soonest (suc n) ls) E q ls h k)
    (T - soonest (suc n) ls))
  where
    by : (m : ℕ) → soonest (suc n) ls ≡ m
        → (0 < m → All (λ (l : Line). m ≤ to_run l) ls → 0 < T - m → actions_at (T - m) (sweep n (map (later m) ls)) ≡ by_line (line_after (T - m)) 0
        (map (later m) ls))
        → actions_at T (cond (eqb m 0) [] (event m (by_line (change_on m) 0 ls) ∷ sweep n (map (later m) ls))) ≡ by_line (line_after T) 0 ls
    by zero e ih = sym (over T E ls (at-end n E ls e h) h)
    by (suc k) e ih = rw (ne_eqb (suc k) 0 (λ z. omega (arith, z))) (on (ltb T (suc k)) (eqb T (suc k)) refl refl)
      where
        q : All (λ (l : Line). suc k ≤ to_run l) ls
        q = soonest_le (suc n) (suc k) ls (omega (arith, e))

        on : (u v : Bool) → ltb T (suc k) ≡ u → eqb T (suc k) ≡ v
            → cond u [] (cond v (by_line (change_on (suc k)) 0 ls) (actions_at (T - suc k) (sweep n (map (later (suc k)) ls)))) ≡ by_line
            (line_after T) 0 ls
        on true v a b = sym (by-none (line_after T) (λ (l : Line). suc k ≤ to_run l)
            (λ j l r. before-end T j l (omega (arith, r, ltb-true T (suc k) a))) 0 ls q)
        on false true a b =
            let z : T ≡ suc k = eqb-true T (suc k) b in
            rw z (sym (by-same (line_after (suc k)) (change_on (suc k)) (λ (l : Line). suc k ≤ to_run l) (λ j l r. at_next (suc k) j l r) 0 ls q))
        on false false a b =
            let x : suc k ≤ T = ltb-false T (suc k) a in
            let y : T ≡ suc k → ⊥ = eqb-false T (suc k) b in
            let lt : suc k < T = omega (arith, x, y) in
            ih (omega arith) q (omega arith)
            ∙ by_map (line_after (T - suc k)) (later (suc k)) 0 ls
            ∙ by-same (λ j l. line_after (T - suc k) j (later (suc k) l)) (line_after T) (λ (l : Line). suc k ≤ to_run l)
            (λ j l r. after_next T (suc k) j l r lt) 0 ls q

-- what happens on line k at the moment T of the plan: at 0 its first token starts
unfoldable happens : ℕ → ℕ → Line → List Action
happens zero k l = start_on k l
happens (suc T) k l = line_after (suc T) k l

no_start : (k : ℕ) (l : Line) → Ends 0 l → start_on k l ≡ []
unfolding start_on
no_start k l e = rw (none_left l e)

events_say : (ls : List Line) → Together ls → (T : ℕ) → actions_at T (events_of ls) ≡ by_line (happens T) 0 ls
unfolding events_of actions_at happens Together
events_say ls h zero = by (eqb (plan_ticks ls) 0) refl
  where
    by : (b : Bool) → eqb (plan_ticks ls) 0 ≡ b → actions_at 0 (cond b []
        (event 0 (by_line start_on 0 ls) ∷ sweep (plan_ticks ls) ls)) ≡ by_line start_on 0 ls
    by true e = sym (by-none start_on (Ends 0) no_start 0 ls (rw (eqb-true (plan_ticks ls) 0 e) at h))
    by false e = refl
events_say ls h (suc T) = by (eqb (plan_ticks ls) 0) refl
  where
    minus : suc T - 0 ≡ suc T
    minus = omega arith

    by : (b : Bool) → eqb (plan_ticks ls) 0 ≡ b
        → actions_at (suc T) (cond b [] (event 0 (by_line start_on 0 ls) ∷ sweep (plan_ticks ls) ls)) ≡ by_line (line_after (suc T)) 0 ls
    by true e = sym (over (suc T) (plan_ticks ls) ls (eqb-true (plan_ticks ls) 0 e) h)
    by false e =
        rw (le-ltb (suc T) 0 (omega arith), ne_eqb (suc T) 0 (λ z. omega (arith, z)), minus)
        (sweep-at (plan_ticks ls) (plan_ticks ls) ls (omega arith) h (suc T) (omega arith))

-- ---- by the decoded plan's starts and ends

module _ (T k : ℕ) where
  -- a line that starts at s, all of whose tokens last: before s nothing happens
  before-line : (s : ℕ) (l : Line) → All (λ (t : PlanToken). 0 < t.duration) l → T < s → line_at_time T k (timed s l) ≡ []
  unfolding line_at_time token_at_time timed flat_map
  before-line s [] a h = refl
  before-line s (t ∷ ts) a h =
      rw (ne_eqb s T (λ z. omega (arith, z)), ne_eqb (s + t.duration) T (λ z. omega (arith, z)))
      (before-line (s + t.duration) ts a.1 (omega arith))

  -- at s it starts
  at-line : (s : ℕ) (l : Line) → All (λ (t : PlanToken). 0 < t.duration) l → T ≡ s → line_at_time T k (timed s l) ≡ start_on k l
  unfolding line_at_time token_at_time timed flat_map start_on
  at-line s [] a h = refl
  at-line s (t ∷ ts) a h =
      let some = a.0 in
      rw (
        eq-eqb s T (sym h),
        ne_eqb (s + t.duration) T (λ z. omega (arith, z, some)),
        before-line (s + t.duration) ts a.1
            (omega (arith, some, h)),
      )

  -- and then
  after_line : (s : ℕ) (l : Line) → All (λ (t : PlanToken). 0 < t.duration) l → s < T → line_at_time T k (timed s l) ≡ line_after (T - s) k l
  unfolding line_at_time token_at_time timed flat_map line_after
  after_line s [] a h = refl
  after_line s (t ∷ ts) a h =
      rw (ne_eqb s T (λ z. omega (arith, z)))
      (by (ltb (T - s) t.duration) (eqb (T - s) t.duration) refl refl (λ l. after_line (s + t.duration) ts a.1 l))
    where
      rest : List Action
      rest = flat_map (token_at_time T k) (timed (s + t.duration) ts)

      by : (u v : Bool) → ltb (T - s) t.duration ≡ u → eqb (T - s) t.duration ≡ v
          → (s + t.duration < T → line_at_time T k (timed (s + t.duration) ts) ≡ line_after (T - (s + t.duration)) k ts)
          → cond (eqb (s + t.duration) T) (end k t ∷ []) [] ++ rest ≡ cond u []
          (cond v (end k t ∷ start_on k ts) (line_after (T - s - t.duration) k ts))
      by true v x y ih =
          let q = ltb-true (T - s) t.duration x in
          rw (ne_eqb (s + t.duration) T (λ z. omega (arith, z, q))) (before-line (s + t.duration) ts a.1 (omega (arith, q)))
      by false true x y ih =
          let q : T - s ≡ t.duration = eqb-true (T - s) t.duration y in
          let e : s + t.duration ≡ T = omega (arith, q) in
          rw (eq-eqb (s + t.duration) T e) (ap (λ (r : List Action). end k t ∷ r) (at-line (s + t.duration) ts a.1 (sym e)))
      by false false x y ih =
          let q = ltb-false (T - s) t.duration x in
          let n : T - s ≡ t.duration → ⊥ = eqb-false (T - s) t.duration y in
          let d : T - (s + t.duration) ≡ T - s - t.duration = omega arith in
          let lt : s + t.duration < T = omega (arith, q, n) in
          rw (ne_eqb (s + t.duration) T (λ z. omega (arith, z, lt))) (ih lt ∙ ap (λ (i : ℕ). line_after i k ts) d)

-- a line from 0 on
line_moment : (T k : ℕ) (l : Line) → All (λ (t : PlanToken). 0 < t.duration) l → happens T k l ≡ line_at_time T k (timed 0 l)
unfolding happens
line_moment zero k l a = sym (at-line 0 k 0 l a refl)
line_moment (suc T) k l a = let e : suc T - 0 ≡ suc T = omega arith in sym (after_line (suc T) k 0 l a (omega arith)
    ∙ ap (λ (i : ℕ). line_after i k l) e)

-- the decoded plan's timelines
timed-lines : (p : List ℕ) (n k : ℕ) → map (timed 0) (run (line_tokens p) 1 n k) ≡ run (line_of p) 1 n k
unfolding run
timed-lines p zero k = refl
timed-lines p (suc n) k = rw (timed-line p k, timed-lines p n (k + 1))

-- THE MEANING: at each moment the events of a plan say, of each timeline in its turn, what ends then and what starts then
pub events_at : (p : List ℕ) → Together (plan_lines p) → (T : ℕ) → actions_at T (events_of (plan_lines p)) ≡ by_line (line_at_time T) 0 (lines_of p)
unfolding lines_of Together plan_lines
events_at p h T =
    events_say (plan_lines p) h T
    ∙ by-same (happens T) (λ j l. line_at_time T j (timed 0 l)) (Ends (plan_ticks (plan_lines p))) (λ j l e. line_moment T j l e.long) 0
    (plan_lines p) h
    ∙ sym (by_map (line_at_time T) (timed 0) 0 (plan_lines p))
    ∙ ap (by_line (line_at_time T) 0) (timed-lines p (word p 2) 0)

-- ---- the shape

-- a line whose token ends next gives an action
own_change : (m k : ℕ) (l : Line) → 0 < m → to_run l ≡ m → 0 < length (change_on m k l)
unfolding change_on to_run
own_change m k [] p e = absurd (omega (arith, e))
own_change m k (t ∷ ts) p e = rw (eq-eqb t.duration m e) (omega arith)

-- and there is one
pub some_change : (n m k : ℕ) (ls : List Line) → 0 < m → 0 < length ls → All (λ (x : Line). to_run x ≤ n) ls → soonest n ls ≡ m
    → 0 < length (by_line (change_on m) k ls)
unfolding soonest by_line
some_change n m k [] p q h e = absurd (omega arith)
some_change n m k (l ∷ []) p q h e =
    let own : to_run l ≡ m = (rw (le-leb (to_run l) n h.0) at e) in
    let a = length-append (change_on m k l) [] in
    omega (arith, a, own_change m k l p own)
some_change n m k (l ∷ l₁ ∷ ls) p q h e =
    rw (length-append (change_on m k l) (by_line (change_on m) (k + 1) (l₁ ∷ ls)))
    (by (leb (to_run l) (soonest n (l₁ ∷ ls))) e (λ f. some_change n m (k + 1) (l₁ ∷ ls) p (omega arith) h.1 f))
  where
    by : (b : Bool) → cond b (to_run l) (soonest n (l₁ ∷ ls)) ≡ m → (soonest n (l₁ ∷ ls) ≡ m → 0 < length (by_line (change_on m) (k + 1) (l₁ ∷ ls)))
        → 0 < length (change_on m k l) + length (by_line (change_on m) (k + 1) (l₁ ∷ ls))
    by true f ih = let o = own_change m k l p f in omega (arith, o)
    by false f ih = let o = ih f in omega (arith, o)

pub all_runs : (n E : ℕ) (ls : List Line) → E ≤ n → All (Ends E) ls → All (λ (x : Line). to_run x ≤ n) ls
all_runs n E [] le h = tt
all_runs n E (l ∷ ls) le h = let r = run_le E l h.0 in (omega (arith, r), all_runs n E ls le h.1)

sweep_shape : (n E : ℕ) (ls : List Line) → E ≤ n → All (Ends E) ls → 0 < length ls → All Later (sweep n ls)
unfolding sweep
sweep_shape zero E ls le h p = tt
sweep_shape (suc n) E ls le h p =
    by (soonest (suc n) ls) refl
    (λ q k. sweep_shape n (E - soonest (suc n) ls) (map (later (soonest (suc n) ls)) ls) (omega arith) (all-later (soonest (suc n) ls) E q ls h k)
    (rw (length-map ls (later (soonest (suc n) ls))) p))
  where
    by : (m : ℕ) → soonest (suc n) ls ≡ m
        → (0 < m → All (λ (l : Line). m ≤ to_run l) ls → All Later (sweep n (map (later m) ls)))
        → All Later (cond (eqb m 0) [] (event m (by_line (change_on m) 0 ls) ∷ sweep n (map (later m) ls)))
    by zero e ih = tt
    by (suc k) e ih =
        let here : Later (event (suc k) (by_line (change_on (suc k)) 0 ls)) =
        record { delay = omega arith; actions = some_change (suc n) (suc k) 0 ls (omega arith) p (all_runs (suc n) E ls le h) e } in
        rw (ne_eqb (suc k) 0 (λ z. omega (arith, z))) (here, ih (omega arith) (soonest_le (suc n) (suc k) ls (omega (arith, e))))

-- where nothing is left of a plan of lines that end together, or a line starts
starts-some : (k : ℕ) (ls : List Line) → (plan_ticks ls ≡ 0 → ⊥) → 0 < length (by_line start_on k ls)
unfolding plan_ticks line_ticks by_line start_on
starts-some k [] h = absurd (h refl)
starts-some k ([] ∷ ls) h = absurd (h refl)
starts-some k ((t ∷ ts) ∷ ls) h = omega arith

pub some-line : (ls : List Line) → (plan_ticks ls ≡ 0 → ⊥) → 0 < length ls
unfolding plan_ticks
some-line [] h = absurd (h refl)
some-line (l ∷ ls) h = omega arith

-- THE SHAPE: "0 for the first", "Later delays are 1 or more", "1 or more" actions
pub events_shape : (ls : List Line) → Together ls → Shaped (events_of ls)
unfolding events_of Together Shaped
events_shape ls h = by (eqb (plan_ticks ls) 0) refl
  where
    by : (b : Bool) → eqb (plan_ticks ls) 0 ≡ b → Shaped (cond b [] (event 0 (by_line start_on 0 ls) ∷ sweep (plan_ticks ls) ls))
    by true e = tt
    by false e =
        let some : plan_ticks ls ≡ 0 → ⊥ = eqb-false (plan_ticks ls) 0 e in
        (refl, starts-some 0 ls some, sweep_shape (plan_ticks ls) (plan_ticks ls) ls (omega arith) h (some-line ls some))

-- ---- events of that shape that say the same of each moment are the same

module _ (e : Event) (es : List Event) where
  pub says_then : actions_at e.delay (e ∷ es) ≡ e.actions
  unfolding actions_at
  says_then = rw (le-ltb e.delay e.delay (omega arith), eq-eqb e.delay e.delay refl)

  pub says-before : (T : ℕ) → T < e.delay → actions_at T (e ∷ es) ≡ []
  unfolding actions_at
  says-before T h = rw (lt-ltb T e.delay h)

  pub says-after : (T : ℕ) → 0 < T → actions_at (e.delay + T) (e ∷ es) ≡ actions_at T es
  unfolding actions_at
  says-after T h =
      let d : e.delay + T - e.delay ≡ T = omega arith in
      rw (le-ltb (e.delay + T) e.delay (omega arith), ne_eqb (e.delay + T) e.delay (λ z. omega (arith, z)), d)

same-event : (e f : Event) → e.delay ≡ f.delay → e.actions ≡ f.actions → e ≡ f
same-event e f d a = λ i. record { delay = d i; actions = a i }

-- no event is earlier
not_earlier : (e f : Event) (es fs : List Event) → 0 < length e.actions → e.delay < f.delay
    → actions_at e.delay (e ∷ es) ≡ actions_at e.delay (f ∷ fs) → ⊥
not_earlier e f es fs some l h =
    let none : 0 ≡ length e.actions = ap length (sym (says-before f fs e.delay l) ∙ sym h ∙ says_then e es) in
    omega (arith, none, some)

later_only : (es fs : List Event) → All Later es → All Later fs → ((T : ℕ) → 0 < T → actions_at T es ≡ actions_at T fs) → es ≡ fs
unfolding actions_at
later_only [] [] a c h = refl
later_only [] (f ∷ fs) a c h =
    let none : 0 ≡ length f.actions = ap length (h f.delay c.0.delay ∙ says_then f fs) in
    absurd (omega (arith, none, c.0.actions))
later_only (e ∷ es) [] a c h =
    let none : 0 ≡ length e.actions = ap length (sym (h e.delay a.0.delay) ∙ says_then e es) in
    absurd (omega (arith, none, a.0.actions))
later_only (e ∷ es) (f ∷ fs) a c h =
    let le : e.delay < f.delay → ⊥ = λ l. not_earlier e f es fs a.0.actions l (h e.delay a.0.delay) in
    let ge : f.delay < e.delay → ⊥ = λ l. not_earlier f e fs es c.0.actions l (sym (h f.delay c.0.delay)) in
    let d : e.delay ≡ f.delay = omega (arith, le, ge) in
    let s : e.actions ≡ f.actions = sym (says_then e es) ∙ h e.delay a.0.delay ∙ ap (λ (T : ℕ). actions_at T (f ∷ fs)) d ∙ says_then f fs in
    let rest : es ≡ fs =
    later_only es fs a.1 c.1
    (λ T p. sym (says-after e es T p) ∙ h (e.delay + T) (omega arith) ∙ ap (λ (k : ℕ). actions_at (k + T) (f ∷ fs)) d ∙ says-after f fs T p) in
    ap (λ (x : Event). x ∷ es) (same-event e f d s) ∙ ap (λ (l : List Event). f ∷ l) rest

-- THE LAW: no other events say the same
pub events_only : (es fs : List Event) → Shaped es → Shaped fs → ((T : ℕ) → actions_at T es ≡ actions_at T fs) → es ≡ fs
unfolding Shaped actions_at
events_only [] [] a c h = refl
events_only [] (f ∷ fs) a c h =
    let none : 0 ≡ length f.actions = ap length (h f.delay ∙ says_then f fs) in
    absurd (omega (arith, none, c.1))
events_only (e ∷ es) [] a c h =
    let none : 0 ≡ length e.actions = ap length (sym (h e.delay) ∙ says_then e es) in
    absurd (omega (arith, none, a.1))
events_only (e ∷ es) (f ∷ fs) a c h =
    let d : e.delay ≡ f.delay = a.0 ∙ sym c.0 in
    let s : e.actions ≡ f.actions = sym (says_then e es) ∙ h e.delay ∙ ap (λ (T : ℕ). actions_at T (f ∷ fs)) d ∙ says_then f fs in
    let rest : es ≡ fs =
    later_only es fs a.2 c.2
    (λ T p. sym (says-after e es T p) ∙ h (e.delay + T) ∙ ap (λ (k : ℕ). actions_at (k + T) (f ∷ fs)) d ∙ says-after f fs T p) in
    ap (λ (x : Event). x ∷ es) (same-event e f d s) ∙ ap (λ (l : List Event). f ∷ l) rest
