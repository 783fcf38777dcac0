-- The laws of ranks: they rise with time, by one from an endpoint to the next; and what an endpoint of a plan is. Assumes nothing.
use mathlib.Core.Path.{◌≡◌, refl, ◌∙◌}
use mathlib.Core.Bool.{Bool, true, false, ◌||◌, cond, false≢true}
use mathlib.Core.Logic.{◌⊎◌, inl, inr, ⊎_elim}
use mathlib.Core.List.{List, [], ◌∷◌}
use Prim.Native.Nat.{ℕ, zero, suc, ◌+◌, ◌≤◌, ◌<◌}
use native.Mathlib.Nat.{add-zero, add-suc}
use native.Mathlib.Omega.{arith}
use lib.Dec.{eqb}
use lib.ListN.{length, get_or}
use borrow.Author.Tests.{eqb-true, eq-eqb}
use Rattle.words.specs.Words.{word}
use Rattle.words.specs.Lists.{any}
use Rattle.lines.specs.declared.Token.{Token}
use Rattle.lines.specs.Lines.{token, line_count, start_of, line_of, lines_of}
use Rattle.lines.proofs.Laws.{line-length, line-token, lines-length, lines-line}
use Rattle.sweep.specs.Ranks.{touches, endpoint, rank}

module _ (lines : List (List Token)) where
  -- one tick later
  tick : (t : ℕ) (b : Bool) → endpoint lines t ≡ b → rank lines (suc t) ≡ rank lines t + cond b 1 0
  unfolding rank
  tick t b e = rw e

  -- ranks don't fall
  pub rank_rises : (t m : ℕ) → rank lines t ≤ rank lines (t + m)
  rank_rises t zero = rw (add-zero t) (omega arith)
  rank_rises t (suc m) = rw (add-suc t m) (omega (arith, rank_rises t m, tick (t + m) (endpoint lines (t + m)) refl))

  -- after an endpoint they are higher
  pub rank_higher : (t m : ℕ) → endpoint lines t ≡ true → rank lines t < rank lines (suc t + m)
  rank_higher t m e = omega (arith, tick t true e, rank_rises (suc t) m)

  -- where nothing starts or ends they stay
  stays : (t m : ℕ) → ((x : ℕ) → t ≤ x → x < t + m → endpoint lines x ≡ false) → rank lines (t + m) ≡ rank lines t
  stays t zero h = rw (add-zero t)
  stays t (suc m) h =
      rw (add-suc t m) (omega (arith, tick (t + m) false (h (t + m) (omega arith) (omega arith)), stays t m (λ x a b. h x a (omega arith))))

  -- from an endpoint to the next they rise by one
  pub rank-next : (t m : ℕ) → 0 < m → endpoint lines t ≡ true → ((x : ℕ) → t < x → x < t + m → endpoint lines x ≡ false)
      → rank lines (t + m) ≡ rank lines t + 1
  rank-next t zero l e h = absurd (omega arith)
  rank-next t (suc m) l e h =
      let same : t + suc m ≡ suc t + m = omega arith in
      rw same (stays (suc t) m (λ x a b. h x a (omega arith)) ∙ tick t true e)

-- ---- an endpoint of a plan is where one of its tokens starts or ends

-- boundary k of line v: token k starts there, if there is one, and token k - 1 ends there
pub record Boundary (p : List ℕ) (t : ℕ) : Type 0 where
  pub line : ℕ
  pub number : ℕ
  pub there : line < word p 2
  pub within : number ≤ line_count p line
  pub here : start_of p line number ≡ t

-- a test that one element passes
some_at : {A : Type 0} (q : A → Bool) (d : A) (xs : List A) → any q xs ≡ true → (i : ℕ) × (i < length xs) × (q (get_or xs i d) ≡ true)
unfolding any
some_at q d [] h = absurd (false≢true h)
some_at q d (x ∷ xs) h = by (q x) refl h (some_at q d xs)
  where
    by : (b : Bool) → q x ≡ b → (b || any q xs) ≡ true → (any q xs ≡ true → (i : ℕ) × (i < length xs) × (q (get_or xs i d) ≡ true))
        → (i : ℕ) × (i < suc (length xs)) × (q (get_or (x ∷ xs) i d) ≡ true)
    by true e g rest = (0, omega arith, e)
    by false e g rest = let r = rest g in (suc r.0, omega (arith, r.1), r.2)

at_some : {A : Type 0} (q : A → Bool) (d : A) (xs : List A) (i : ℕ) → i < length xs → q (get_or xs i d) ≡ true → any q xs ≡ true
unfolding any
at_some q d [] i l h = absurd (omega arith)
at_some q d (x ∷ xs) zero l h = rw h
at_some q d (x ∷ xs) (suc i) l h = by (q x) (at_some q d xs i (omega arith) h)
  where
    by : (b : Bool) → any q xs ≡ true → (b || any q xs) ≡ true
    by true e = refl
    by false e = e

or_one : (a b : Bool) → (a || b) ≡ true → (a ≡ true) ⊎ (b ≡ true)
or_one true b h = inl refl
or_one false b h = inr h

or_right : (a : Bool) → (a || true) ≡ true
or_right true = refl
or_right false = refl

abbrev none : Token
none = token 0 0 0 0

module _ (p : List ℕ) where
  pub boundary_of : (t : ℕ) → endpoint (lines_of p) t ≡ true → Boundary p t
  unfolding endpoint touches start_of
  boundary_of t h =
      let a = some_at (any (touches t)) [] (lines_of p) h in
      let v : ℕ = a.0 in
      let l : v < word p 2 = omega (arith, a.1, lines-length p) in
      let k = some_at (touches t) none (line_of p v) (rw (lines-line p v l) at a.2) in
      let j : ℕ = k.0 in
      let m : j < line_count p v = omega (arith, k.1, line-length p v) in
      ⊎_elim
      (λ q. record { line = v; number = j; there = l; within = omega arith; here = eqb-true _ _ q })
      (λ q. record { line = v; number = suc j; there = l; within = omega arith; here = eqb-true _ _ q })
      (or_one _ _ (rw (line-token p v j none m) at k.2))

  -- and back: both ends of each token
  pub token-starts : (v j : ℕ) → v < word p 2 → j < line_count p v → endpoint (lines_of p) (start_of p v j) ≡ true
  unfolding endpoint touches
  token-starts v j l m =
      at_some (any (touches (start_of p v j))) [] (lines_of p) v (omega (arith, lines-length p))
      (rw (lines-line p v l)
      (at_some (touches (start_of p v j)) none (line_of p v) j (omega (arith, line-length p v))
      (rw (line-token p v j none m) (rw (eq-eqb (start_of p v j) _ refl)))))

  pub token-ends : (v j : ℕ) → v < word p 2 → j < line_count p v → endpoint (lines_of p) (start_of p v (suc j)) ≡ true
  unfolding endpoint touches start_of
  token-ends v j l m =
      at_some (any (touches (start_of p v (suc j)))) [] (lines_of p) v (omega (arith, lines-length p))
      (rw (lines-line p v l)
      (at_some (touches (start_of p v (suc j))) none (line_of p v) j (omega (arith, line-length p v))
      (rw (line-token p v j none m) (rw (eq-eqb (start_of p v (suc j)) _ refl) (or_right (eqb (start_of p v j) (start_of p v (suc j))))))))
