-- Where a line stands at a time, when it is later, and which line's token ends the soonest. Assumes nothing.
use mathlib.Core.Path.{◌≡◌, refl, sym, ap, ◌∙◌}
use mathlib.Core.Bool.{Bool, true, false, ◌||◌, cond, false≢true}
use mathlib.Core.Logic.{◌⊎◌, inl, inr, ⊎_elim}
use mathlib.Core.List.{List}
use Prim.Native.Nat.{ℕ, zero, suc, ◌+◌, ◌*◌, ◌≤◌, ◌<◌}
use native.Mathlib.Nat.{add-zero, mul-zero, mul-suc, add-suc, eq-or-lt_of_le}
use native.Mathlib.Omega.{arith}
use lib.Dec.{ltb, leb, eqb}
use borrow.Author.Tests.{ltb-true, ltb-false, leb-true, leb-false, eqb-true, eqb-false}
use Rattle.words.specs.Words.{word}
use Rattle.lines.specs.Lines.{token_width, line_count, line_place, duration_of, start_of}
use Rattle.lines.proofs.Width.{width_few}
use Rattle.sweep.specs.declared.Stand.{Stand}
use Rattle.sweep.specs.Stands.{first_stand, next_of, runs_on, later, sooner, line_at, soonest, Later}
use Rattle.sweep.specs.Sweeps.{Sweeps}
use Rattle.sweep.proofs.Steps.{sooner-none, sooner_this, sooner_that}

-- the duration of token j, by its place
pub duration_at : (p : List ℕ) (v j : ℕ) → word p (line_place p v + token_width p * j + 1) ≡ duration_of p v j
duration_at p v j = refl

-- a token has two words at least, value and duration
pub words-some : (p : List ℕ) → 2 ≤ token_width p
words-some p = (width_few p).0

-- starts don't fall
pub starts_rise : (p : List ℕ) (v i m : ℕ) → start_of p v i ≤ start_of p v (i + m)
unfolding start_of
starts_rise p v i zero = rw (add-zero i) (omega arith)
starts_rise p v i (suc m) = rw (add-suc i m) (omega (arith, starts_rise p v i m))

-- line v stands at one of its tokens, which has begun by the time t and runs on, or at its end
pub record At (p : List ℕ) (v t : ℕ) (s : Stand) : Type 0 where
  pub token : ℕ
  pub place : s.place ≡ line_place p v + token_width p * token
  pub left : s.left + token ≡ line_count p v
  pub begun : start_of p v token ≤ t
  pub runs : token < line_count p v → s.run + t ≡ start_of p v (suc token)
  pub some : token < line_count p v → 0 < s.run

module _ (p : List ℕ) (good : Sweeps p) (v : ℕ) (there : v < word p 2) where
  -- it begins
  pub at_first : At p v 0 (first_stand p v)
  unfolding start_of
  at_first =
      let here : line_place p v + token_width p * 0 ≡ line_place p v = rw (mul-zero (token_width p)) (add-zero _) in
      let first : word p (line_place p v + 1) ≡ duration_of p v 0 = ap (λ (k : ℕ). word p (k + 1)) (sym here) ∙ duration_at p v 0 in
      record {
        token = 0;
        place = sym here;
        left = omega arith;
        begun = omega arith;
        runs = λ l. omega (arith, first);
        some = λ l. omega (arith, first, good.long v there 0 l);
      }

  -- m ticks later, where its token doesn't end before
  pub at-later : (t m : ℕ) (s : Stand) → At p v t s → 0 < m → ((s.left ≡ 0 → ⊥) → m ≤ s.run) → At p v (t + m) (later p m s)
  unfolding later start_of
  at-later t m s a pos most = left_by (eqb s.left 0) refl
    where
      next_place_lem : s.place + token_width p ≡ line_place p v + token_width p * suc a.token
      next_place_lem = omega (arith, a.place, mul-suc (token_width p) a.token)

      next-run : word p (s.place + token_width p + 1) ≡ duration_of p v (suc a.token)
      next-run = ap (λ (k : ℕ). word p (k + 1)) next_place_lem ∙ duration_at p v (suc a.token)

      run_by : (b : Bool) → leb s.run m ≡ b → (s.left ≡ 0 → ⊥)
          → At p v (t + m) (cond b (next_of p s) (runs_on m s))
      run_by true e f =
          let below : a.token < line_count p v = omega (arith, a.left, f) in
          let ends : s.run ≡ m = omega (arith, leb-true s.run m e, most f) in
          record {
            token = suc a.token;
            place = next_place_lem;
            left = omega (arith, a.left, f);
            begun = omega (arith, a.runs below);
            runs = λ l. omega (arith, a.runs below, next-run);
            some = λ l. omega (arith, next-run, good.long v there (suc a.token) l);
          }
      run_by false e f =
          let more = leb-false s.run m e in
          record {
            token = a.token;
            place = a.place;
            left = a.left;
            begun = omega (arith, a.begun);
            runs = λ l. omega (arith, a.runs l);
            some = λ l. omega arith;
          }

      left_by : (b : Bool) → eqb s.left 0 ≡ b
          → At p v (t + m) (cond b s (cond (leb s.run m) (next_of p s) (runs_on m s)))
      left_by true e =
          let none : s.left ≡ 0 = eqb-true _ _ e in
          record {
            token = a.token;
            place = a.place;
            left = a.left;
            begun = omega (arith, a.begun);
            runs = λ l. absurd (omega (arith, a.left));
            some = a.some;
          }
      left_by false e = run_by (leb s.run m) refl (eqb-false _ _ e)

-- ---- the soonest end

module _ (ls : List Stand) where
  -- each line of which something is left has ticks to run
  abbrev pub Running : ℕ → Type 0
  Running n = (v : ℕ) → v < n → ((line_at ls v).left ≡ 0 → ⊥) → 0 < (line_at ls v).run

  -- x isn't 0, and no more than r, nor than the ticks of the line that stands at s, where they count
  abbrev Fewer : ℕ → Stand → ℕ → Type 0
  Fewer r s x = (0 < r → (x ≤ r) × (0 < x)) × ((s.left ≡ 0 → ⊥) → (x ≤ s.run) × (0 < x))

  sooner-least : (r : ℕ) (s : Stand) → ((s.left ≡ 0 → ⊥) → 0 < s.run) → Fewer r s (sooner r s)
  unfolding sooner
  sooner-least r s h = left_by (eqb s.left 0) refl
    where
      run_by : (b : Bool) → (eqb r 0 || ltb s.run r) ≡ b → 0 < s.run → Fewer r s (cond b s.run r)
      run_by true e pos = (λ k. (less (eqb r 0) refl e k, pos), λ f. (omega arith, pos))
        where
          less : (z : Bool) → eqb r 0 ≡ z → (z || ltb s.run r) ≡ true → 0 < r → s.run ≤ r
          less true q g k = absurd (omega (arith, eqb-true r 0 q))
          less false q g k = omega (arith, ltb-true s.run r g)
      run_by false e pos = (λ k. (omega arith, k), λ f. more (eqb r 0) refl e)
        where
          more : (z : Bool) → eqb r 0 ≡ z → (z || ltb s.run r) ≡ false → (r ≤ s.run) × (0 < r)
          more true q g = absurd (false≢true (sym g))
          more false q g = (ltb-false s.run r g, omega (arith, eqb-false r 0 q))

      left_by : (b : Bool) → eqb s.left 0 ≡ b → Fewer r s (cond b r (cond (eqb r 0 || ltb s.run r) s.run r))
      left_by true e = (λ k. (omega arith, k), λ f. absurd (f (eqb-true _ _ e)))
      left_by false e = run_by (eqb r 0 || ltb s.run r) refl (h (eqb-false _ _ e))

  -- no running token has fewer ticks to run, and it isn't 0 where one runs
  pub soonest-least : (n : ℕ) → Running n → (v : ℕ) → v < n → ((line_at ls v).left ≡ 0 → ⊥)
      → (soonest ls n ≤ (line_at ls v).run) × (0 < soonest ls n)
  unfolding soonest
  soonest-least zero h v l f = absurd (omega arith)
  soonest-least (suc n) h v l f =
      let q = sooner-least (soonest ls n) (line_at ls n) (h n (omega arith)) in
      let le : v ≤ n = omega arith in
      ⊎_elim
      (λ (e : v ≡ n). rw e (q.1 (rw e at f)))
      (λ k.
      let r = soonest-least n (λ u m. h u (omega arith)) v k f in
      let z = q.0 r.1 in
      (omega (arith, r.0, z.0), z.1))
      (eq-or-lt_of_le le)

  -- and it is one's, where it isn't 0
  pub record Soon (n : ℕ) : Type 0 where
    pub line : ℕ
    pub below : line < n
    pub runs : (line_at ls line).left ≡ 0 → ⊥
    pub here : (line_at ls line).run ≡ soonest ls n

  -- the fewer of two is one of them
  one_of : (r : ℕ) (s : Stand) → (sooner r s ≡ r) ⊎ ((s.left ≡ 0 → ⊥) × (sooner r s ≡ s.run))
  one_of r s = left_by (eqb s.left 0) refl
    where
      run_by : (b : Bool) → (eqb r 0 || ltb s.run r) ≡ b → (s.left ≡ 0 → ⊥) → (sooner r s ≡ r) ⊎ ((s.left ≡ 0 → ⊥) × (sooner r s ≡ s.run))
      run_by true e f = inr (f, sym (sooner_this r s f e))
      run_by false e f = inl (sym (sooner_that r s f e))

      left_by : (b : Bool) → eqb s.left 0 ≡ b → (sooner r s ≡ r) ⊎ ((s.left ≡ 0 → ⊥) × (sooner r s ≡ s.run))
      left_by true e = inl (sym (sooner-none r s (eqb-true _ _ e)))
      left_by false e = run_by (eqb r 0 || ltb s.run r) refl (eqb-false _ _ e)

  pub soonest-some : (n : ℕ) → 0 < soonest ls n → Soon n
  unfolding soonest
  soonest-some zero h = absurd (omega arith)
  soonest-some (suc n) h =
      ⊎_elim
      (λ e.
      let q = soonest-some n (omega (arith, h, e)) in
      record { line = q.line; below = omega (arith, q.below); runs = q.runs; here = q.here ∙ sym e })
      (λ e. record { line = n; below = omega arith; runs = e.0; here = sym e.1 })
      (one_of (soonest ls n) (line_at ls n))

-- ---- how many tokens are left on the first n lines

unfoldable pub left_on : List Stand → ℕ → ℕ
left_on ls zero = 0
left_on ls (suc v) = left_on ls v + (line_at ls v).left

module _ (p : List ℕ) (m : ℕ) where
  -- a line has no more later, and one less where its token has ended
  line-left : (s : Stand) → ((later p m s).left ≤ s.left) × ((s.left ≡ 0 → ⊥) → s.run ≤ m → (later p m s).left < s.left)
  unfolding later
  line-left s = left_by (eqb s.left 0) refl
    where
      run_by : (b : Bool) → leb s.run m ≡ b → (s.left ≡ 0 → ⊥)
          → let l = (cond b (next_of p s) (runs_on m s)).left in
          (l ≤ s.left) × ((s.left ≡ 0 → ⊥) → s.run ≤ m → l < s.left)
      run_by true e f = (omega arith, λ g k. omega (arith, g))
      run_by false e f = (omega arith, λ g k. absurd (omega (arith, leb-false s.run m e)))

      left_by : (b : Bool) → eqb s.left 0 ≡ b
          → let l = (cond b s (cond (leb s.run m) (next_of p s) (runs_on m s))).left in
          (l ≤ s.left) × ((s.left ≡ 0 → ⊥) → s.run ≤ m → l < s.left)
      left_by true e = (omega arith, λ g k. absurd (g (eqb-true _ _ e)))
      left_by false e = run_by (leb s.run m) refl (eqb-false _ _ e)

  module _ (ls rs : List Stand) where
    no_more : (n : ℕ) → Later p n m ls rs → left_on rs n ≤ left_on ls n
    unfolding left_on
    no_more zero h = omega arith
    no_more (suc n) h =
        let here : (line_at rs n).left ≤ (line_at ls n).left = rw (h n (omega arith)) (line-left (line_at ls n)).0 in
        omega (arith, no_more n (λ v l. h v (omega arith)))

    -- so all lines have fewer, where a token of one has ended
    pub left_fewer : (n : ℕ) → Later p n m ls rs → (v : ℕ) → v < n → ((line_at ls v).left ≡ 0 → ⊥) → (line_at ls v).run ≤ m
        → left_on rs n < left_on ls n
    unfolding left_on
    left_fewer zero h v l f k = absurd (omega arith)
    left_fewer (suc n) h v l f k =
        let le : v ≤ n = omega arith in
        ⊎_elim
        (λ (e : v ≡ n).
        let g : (line_at rs n).left < (line_at ls n).left = rw (h n (omega arith)) ((line-left (line_at ls n)).1 (rw e at f) (rw e at k)) in
        omega (arith, no_more n (λ u q. h u (omega arith))))
        (λ q.
        let here : (line_at rs n).left ≤ (line_at ls n).left = rw (h n (omega arith)) (line-left (line_at ls n)).0 in
        omega (arith, left_fewer n (λ u r. h u (omega arith)) v q f k))
        (eq-or-lt_of_le le)
