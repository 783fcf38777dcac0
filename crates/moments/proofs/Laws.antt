-- What is left of a line, clause by clause. Assumes nothing.
use mathlib.Core.Path.{◌≡◌, refl, sym, ap, ◌∙◌}
use mathlib.Core.Bool.{Bool, true, false}
use mathlib.Core.List.{List, [], ◌∷◌, ◌++◌, map}
use Prim.Native.Nat.{ℕ, zero, suc, min, ◌+◌, ◌-◌, ◌<◌, ◌≤◌}
use native.Mathlib.Decide.{ℕ_discrete}
use native.Mathlib.Omega.{arith}
use lib.ListN.{length, get_or, set, length-set, length-append}
use lib.Seq.{get_or-set_same, get_or-set_other}
use borrow.Author.Tests.{eq-eqb, ne_eqb}
use Rattle.std.proofs.lemmas.Bool.Decides.{nat_tests}
use Rattle.words.specs.Words.{word}
use Rattle.words.specs.Runs.{run}
use Rattle.lines.specs.Lines.{line_count, line_place, token_width, job_at}
use Rattle.event_list.specs.Events.{Line, Action, plan_token, to_run, lesser, start_on, change_on, later, by_line, soonest}
use Rattle.event_list.specs.Plans.{token_at, line_tokens}
use Rattle.sweep.specs.declared.Stand.{Stand}
use Rattle.moments.specs.State.{nothing, tokens_left, line_left, left_on, lines_left, behind, happens, Small, AllSmall}

-- ---- one line

-- the whole of n tokens
pub tokens_whole : (p : List ℕ) (n place : ℕ) → tokens_left p n place (word p (place + 1)) ≡ run (token_at p) (token_width p) n place
unfolding tokens_left run
tokens_whole p zero place = refl
tokens_whole p (suc n) place = refl

-- the whole of line v
pub line-whole : (p : List ℕ) (v : ℕ) (l : Stand) → l.left ≡ line_count p v → l.place ≡ line_place p v → l.run ≡ word p (l.place + 1)
    → line_left p l ≡ line_tokens p v
unfolding line_left line_tokens
line-whole p v l n place r = rw (r, n, place) (tokens_whole p _ _)

-- nothing is left
pub left-none : (p : List ℕ) (l : Stand) → l.left ≡ 0 → line_left p l ≡ []
unfolding line_left tokens_left
left-none p l h = rw h

-- something is left
pub left-some : (p : List ℕ) (l : Stand) (n : ℕ) → l.left ≡ suc n
    → line_left p l ≡ plan_token (word p l.place) l.run (job_at p l.place) ∷ run (token_at p) (token_width p) n (l.place + token_width p)
unfolding line_left tokens_left
left-some p l n h = rw h

some : (n : ℕ) → (n ≡ 0 → ⊥) → n ≡ suc (n - 1)
some n h = omega (arith, h)

module _ (p : List ℕ) (l : Stand) where
  -- ---- the running token

  pub run_none : l.left ≡ 0 → 0 ≡ to_run (line_left p l)
  unfolding to_run
  run_none h = rw (left-none p l h)

  pub run-some : (l.left ≡ 0 → ⊥) → l.run ≡ to_run (line_left p l)
  unfolding to_run
  run-some h = rw (left-some p l _ (some _ h))

  -- ---- behind it

  pub behind-none : l.left ≡ 0 → line_left p l ≡ behind (line_left p l)
  unfolding behind
  behind-none h = rw (left-none p l h)

  pub behind-some : (l.left ≡ 0 → ⊥) → (r : Stand) → r.left ≡ l.left - 1 → r.place ≡ l.place + token_width p → r.run ≡ word p (r.place + 1)
      → line_left p r ≡ behind (line_left p l)
  unfolding behind line_left
  behind-some h r n place ticks =
      rw (left-some p l _ (some _ h)) (ap (λ (k : ℕ). tokens_left p r.left r.place k) ticks ∙ tokens_whole p _ _ ∙ rw (n, place))

  -- ---- m ticks later

  pub later-none : (m : ℕ) → l.left ≡ 0 → line_left p l ≡ later m (line_left p l)
  unfolding later
  later-none m h = rw (left-none p l h)

  pub later-next : (m : ℕ) → (l.left ≡ 0 → ⊥) → l.run ≡ m → (r : Line) → r ≡ behind (line_left p l) → r ≡ later m (line_left p l)
  unfolding later behind
  later-next m h e r q = q ∙ rw (left-some p l _ (some _ h), eq-eqb _ _ e)

  pub later_same : (m : ℕ) → (l.left ≡ 0 → ⊥) → (l.run ≡ m → ⊥) → (r : Stand) → r.left ≡ l.left → r.place ≡ l.place → r.run ≡ l.run - m
      → line_left p r ≡ later m (line_left p l)
  unfolding later
  later_same m h e r n place ticks =
      rw (left-some p l _ (some _ h), left-some p r _ (n ∙ some _ h), ne_eqb _ _ e, place, ticks)

-- ---- several lines

module _ (p : List ℕ) (s : List Stand) where
  -- lines v to n: line v, and those behind it
  pub lines_more : (n v : ℕ) → v < n → lines_left p s (n - v) v ≡ left_on p s v ∷ lines_left p s (n - (v + 1)) (v + 1)
  unfolding lines_left run
  lines_more n v h = let e : n - v ≡ suc (n - (v + 1)) = omega arith in rw e

  pub lines_none : (n v : ℕ) → n ≤ v → lines_left p s (n - v) v ≡ []
  unfolding lines_left run
  lines_none n v h = let e : n - v ≡ 0 = omega arith in rw e

  -- ---- the soonest end, from the last line down

  pub soonest-none : (n most : ℕ) → most ≡ soonest most (lines_left p s (n - n) n)
  unfolding soonest
  soonest-none n most = rw (lines_none n n (omega arith))

  pub soonest_more : (n v most m r : ℕ) → 0 < v → v ≤ n → m ≡ soonest most (lines_left p s (n - v) v)
      → r ≡ to_run (line_left p (get_or s (v - 1) nothing)) → min m r ≡ soonest most (lines_left p s (n - (v - 1)) (v - 1))
  unfolding soonest left_on
  soonest_more n v most m r some within so_far ticks =
      let e : v - 1 + 1 ≡ v = omega arith in
      rw (lines_more n (v - 1) (omega arith), e, ← ticks, ← so_far) (least r m)
    where
      least : (a b : ℕ) → min b a ≡ lesser a b
      least a b = grind (arith, nat_tests)

  pub soonest-all : (n v most m : ℕ) → v ≤ 0 → m ≡ soonest most (lines_left p s (n - v) v) → m ≡ soonest most (lines_left p s n 0)
  soonest-all n v most m e h =
      let z : v ≡ 0 = omega arith in
      let d : n - 0 ≡ n = omega arith in
      rw (z, d) at h

-- ---- lines one by one

-- two ways to read that agree where they are asked
run_below : {A : Type 0} (f g : ℕ → A) (n at : ℕ) → ((k : ℕ) → k < at + n → f k ≡ g k) → run f 1 n at ≡ run g 1 n at
unfolding run
run_below f g zero at h = refl
run_below f g (suc n) at h = rw (h at (omega arith), run_below f g n (at + 1) (λ k l. h k (omega arith)))

run-map : {A B : Type 0} (g : A → B) (f : ℕ → A) (n at : ℕ) → map g (run f 1 n at) ≡ run (λ k. g (f k)) 1 n at
unfolding run
run-map g f zero at = refl
run-map g f (suc n) at = ap (λ l. g (f at) ∷ l) (run-map g f n (at + 1))

-- lines that are each as f says
lines_as : (p : List ℕ) (s : List Stand) (f : ℕ → Line) (n : ℕ) → ((k : ℕ) → k < n → left_on p s k ≡ f k) → lines_left p s n 0 ≡ run f 1 n 0
unfolding lines_left
lines_as p s f n h = run_below (left_on p s) f n 0 (λ k l. h k (omega (arith, l)))

-- lines that are each as they were, changed by g
lines_each : (p : List ℕ) (s t : List Stand) (g : Line → Line) (n : ℕ) → ((k : ℕ) → k < n → left_on p t k ≡ g (left_on p s k))
    → lines_left p t n 0 ≡ map g (lines_left p s n 0)
unfolding lines_left
lines_each p s t g n h =
    run_below (left_on p t) (λ k. g (left_on p s k)) n 0 (λ k l. h k (omega (arith, l))) ∙ sym (run-map g (left_on p s) n 0)

-- a line stored at its place
left-set : (p : List ℕ) (s : List Stand) (v : ℕ) (l : Stand) → v < length s → left_on p (set s v l) v ≡ line_left p l
unfolding left_on
left-set p s v l h = ap (line_left p) (get_or-set_same s v l nothing h)

left_other : (p : List ℕ) (s : List Stand) (v k : ℕ) (l : Stand) → (k ≡ v → ⊥) → left_on p (set s v l) k ≡ left_on p s k
unfolding left_on
left_other p s v k l h = ap (line_left p) (get_or-set_other s v k l nothing h)

small_set : (s : List Stand) (v : ℕ) (l : Stand) → v < length s → AllSmall s → Small l → AllSmall (set s v l)
small_set s v l h a q k =
    elim (ℕ_discrete k v) [
      | yes e ↦ rw (e, get_or-set_same s v l nothing h) q
      | no n ↦ rw (get_or-set_other s v k l nothing n) (a k)
    ]

-- one line more is as f says
set_more : (p : List ℕ) (s : List Stand) (v : ℕ) (l : Stand) (f : ℕ → Line) → v < length s → line_left p l ≡ f v
    → ((k : ℕ) → k < v → left_on p s k ≡ f k) → (k : ℕ) → k < v + 1 → left_on p (set s v l) k ≡ f k
set_more p s v l f h e q k lt =
    elim (ℕ_discrete k v) [
      | yes a ↦ ap (left_on p (set s v l)) a ∙ left-set p s v l h ∙ e ∙ ap f (sym a)
      | no n ↦ left_other p s v k l n ∙ q k (omega (arith, lt, n))
    ]

-- the lines before v are as f says, in sixteen places
pub record Upto (p : List ℕ) (s : List Stand) (f : ℕ → Line) (v : ℕ) : Type 0 where
  pub long : length s ≡ 16
  pub each : (k : ℕ) → k < v → left_on p s k ≡ f k
  pub small : AllSmall s

pub upto_more : {p : List ℕ} {s : List Stand} {f : ℕ → Line} {v : ℕ} {l : Stand} → Upto p s f v → v < 16 → line_left p l ≡ f v → Small l
    → Upto p (set s v l) f (v + 1)
upto_more {p} {s} {f} {v} {l} h lt e q =
    let within : v < length s = omega (arith, h.long) in
    record { long = length-set s v l ∙ h.long; each = set_more p s v l f within e h.each; small = small_set s v l within h.small q }

-- n lines of which nothing is left
abbrev nothings : ℕ → List Stand
nothings zero = []
nothings (suc n) = nothing ∷ nothings n

small_nothings : (n v : ℕ) → Small (get_or (nothings n) v nothing)
small_nothings zero v = record { place = omega arith }
small_nothings (suc n) zero = record { place = omega arith }
small_nothings (suc n) (suc v) = small_nothings n v

pub upto_nothing : (p : List ℕ) (f : ℕ → Line) → Upto p (nothings 16) f 0
upto_nothing p f = record { long = refl; each = λ k h. absurd (omega (arith, h)); small = small_nothings 16 }

-- all n lines are
pub upto_all : {p : List ℕ} {s : List Stand} {f : ℕ → Line} {v : ℕ} (n : ℕ) → Upto p s f v → n ≤ v → lines_left p s n 0 ≡ run f 1 n 0
upto_all {p} {s} {f} n h l = lines_as p s f n (λ k q. h.each k (omega arith))

abbrev pub changed : List ℕ → List Stand → (Line → Line) → ℕ → Line
changed p s g k = g (left_on p s k)

pub upto_each : {p : List ℕ} {t : List Stand} {v : ℕ} (s : List Stand) (g : Line → Line) (n : ℕ) → Upto p t (changed p s g) v → n ≤ v
    → lines_left p t n 0 ≡ map g (lines_left p s n 0)
upto_each {p} {t} s g n h l = lines_each p s t g n (λ k q. h.each k (omega arith))

pub upto_none : (p : List ℕ) (s : List Stand) (f : ℕ → Line) → length s ≡ 16 → AllSmall s → Upto p s f 0
upto_none p s f h a = record { long = h; each = λ k l. absurd (omega (arith, l)); small = a }

-- ---- how much happens

module _ (p : List ℕ) (l : Stand) where
  pub count_none : (first : Bool) (m k : ℕ) → l.left ≡ 0 → 0 ≡ length (happens first m k (line_left p l))
  unfolding happens start_on change_on
  count_none true m k h = rw (left-none p l h)
  count_none false m k h = rw (left-none p l h)

  pub count-first : (first : Bool) (m k : ℕ) → (l.left ≡ 0 → ⊥) → first ≡ true → 1 ≡ length (happens first m k (line_left p l))
  unfolding happens start_on
  count-first first m k h e = rw (e, left-some p l _ (some _ h))

  pub count-apart : (first : Bool) (m k : ℕ) → (l.left ≡ 0 → ⊥) → first ≡ false → (l.run ≡ m → ⊥) → 0 ≡ length (happens first m k (line_left p l))
  unfolding happens change_on
  count-apart first m k h e n = rw (e, left-some p l _ (some _ h), ne_eqb _ _ n)

  pub count-last : (first : Bool) (m k : ℕ) → first ≡ false → l.run ≡ m → l.left ≡ 1 → 1 ≡ length (happens first m k (line_left p l))
  unfolding happens change_on start_on run
  count-last first m k e r n = rw (e, left-some p l 0 n, eq-eqb _ _ r)

  pub count_both : (first : Bool) (m k : ℕ) → (l.left ≡ 0 → ⊥) → first ≡ false → l.run ≡ m → (l.left ≡ 1 → ⊥)
      → 2 ≡ length (happens first m k (line_left p l))
  unfolding happens change_on start_on run
  count_both first m k h e r n = let q : l.left ≡ suc (suc (l.left - 2)) = omega (arith, h, n) in rw (e, left-some p l _ q, eq-eqb _ _ r)

module _ (p : List ℕ) (s : List Stand) (f : ℕ → Line → List Action) where
  pub by_more : (n v : ℕ) → v < n
      → by_line f v (lines_left p s (n - v) v) ≡ f v (line_left p (get_or s v nothing)) ++ by_line f (v + 1) (lines_left p s (n - (v + 1)) (v + 1))
  unfolding by_line left_on
  by_more n v h = rw (lines_more p s n v h)

  pub by-none : (n v : ℕ) → n ≤ v → by_line f v (lines_left p s (n - v) v) ≡ []
  unfolding by_line
  by-none n v h = rw (lines_none p s n v h)

  pub sum-none : (n : ℕ) → length (by_line f 0 (lines_left p s n 0)) ≡ 0 + length (by_line f 0 (lines_left p s (n - 0) 0))
  sum-none n = let e : n - 0 ≡ n = omega arith in rw e (omega arith)

  -- counted so far, and one line more
  pub sum_more : (n v sum one all : ℕ) → v < n → all ≡ sum + length (by_line f v (lines_left p s (n - v) v))
      → one ≡ length (f v (line_left p (get_or s v nothing)))
      → all ≡ sum + one + length (by_line f (v + 1) (lines_left p s (n - (v + 1)) (v + 1)))
  sum_more n v sum one all h e o =
      let a = length-append (f v (line_left p (get_or s v nothing))) (by_line f (v + 1) (lines_left p s (n - (v + 1)) (v + 1))) in
      let q = ap length (by_more n v h) in
      omega (arith, a, q, e, o)

  pub sum-all : (n v sum all : ℕ) → n ≤ v → all ≡ sum + length (by_line f v (lines_left p s (n - v) v)) → sum ≡ all
  sum-all n v sum all h e = let q = ap length (by-none n v h) in omega (arith, q, e)
