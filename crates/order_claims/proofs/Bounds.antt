-- The profile's bounds say only how two times stand to each other: times that stand alike pass alike. Assumes nothing.
use mathlib.Core.Path.{◌≡◌, refl, sym, ◌∙◌}
use mathlib.Core.Bool.{Bool, true, false, ◌&&◌, ◌||◌, not}
use mathlib.Core.Logic.{◌⊎◌, inl, inr, ⊎_elim}
use Prim.Native.Nat.{ℕ, ◌+◌}
use native.Mathlib.Nat.{add-zero}
use native.Mathlib.Numerals.{add-one}
use lib.Dec.{ltb, leb, eqb}
use borrow.Author.Tests.{lt-ltb, le-ltb, leb-true, leb-false, eqb-true, eqb-false, not-true}
use Rattle.words.proofs.Lists.{and-true}
use Rattle.clock.specs.Clock.{no_limit, in_bounds}
use Rattle.choice.proofs.Exists.{and_both}
use Rattle.order.specs.Profile.{timeless, order_bounds}

-- a test that is not later is one the other way round
leb_turned : (a b : ℕ) → leb a b ≡ not (ltb b a)
leb_turned a b = by (leb a b) refl
  where
    by : (t : Bool) → leb a b ≡ t → t ≡ not (ltb b a)
    by true e = rw (le-ltb b a (leb-true a b e))
    by false e = rw (lt-ltb b a (leb-false a b e))

-- (0, N), (1, N) and (0, 0)
not_after : (l r : ℕ) → in_bounds no_limit l r 0 no_limit ≡ not (ltb r l)
unfolding in_bounds
not_after l r = and-true (leb (l + 0) r) ∙ rw (add-zero l) (leb_turned l r)

before : (l r : ℕ) → in_bounds no_limit l r 1 no_limit ≡ ltb l r
unfolding in_bounds
before l r = and-true (leb (l + 1) r) ∙ rw (add-one l)

at : (l r : ℕ) → in_bounds no_limit l r 0 0 ≡ (not (ltb r l) && not (ltb l r))
unfolding in_bounds
at l r = rw (add-zero l, leb_turned l r, leb_turned r l)

pub or_one : (a b : Bool) → (a || b) ≡ true → (a ≡ true) ⊎ (b ≡ true)
or_one true b h = inl refl
or_one false b h = inr h

-- THE LAW: by the profile's bounds, times that stand in the same order pass alike
pub bounds_alike : (lower upper l r l' r' : ℕ) → order_bounds lower upper ≡ true → ltb l r ≡ ltb l' r' → ltb r l ≡ ltb r' l'
    → in_bounds no_limit l r lower upper ≡ in_bounds no_limit l' r' lower upper
unfolding order_bounds
bounds_alike lower upper l r l' r' h a b = ⊎_elim (λ h. ⊎_elim first second (or_one _ _ h)) third (or_one _ _ h)
  where
    first : (eqb lower 0 && eqb upper no_limit) ≡ true → in_bounds no_limit l r lower upper ≡ in_bounds no_limit l' r' lower upper
    first h =
        let q = and_both (eqb lower 0) (eqb upper no_limit) h in
        let e : lower ≡ 0 = eqb-true _ _ q.0 in
        let u : upper ≡ no_limit = eqb-true _ _ q.1 in
        rw (e, u) (not_after l r ∙ rw b (sym (not_after l' r')))

    second : (eqb lower 1 && eqb upper no_limit) ≡ true → in_bounds no_limit l r lower upper ≡ in_bounds no_limit l' r' lower upper
    second h =
        let q = and_both (eqb lower 1) (eqb upper no_limit) h in
        let e : lower ≡ 1 = eqb-true _ _ q.0 in
        let u : upper ≡ no_limit = eqb-true _ _ q.1 in
        rw (e, u) (before l r ∙ a ∙ sym (before l' r'))

    third : (eqb lower 0 && eqb upper 0) ≡ true → in_bounds no_limit l r lower upper ≡ in_bounds no_limit l' r' lower upper
    third h =
        let q = and_both (eqb lower 0) (eqb upper 0) h in
        let e : lower ≡ 0 = eqb-true _ _ q.0 in
        let u : upper ≡ 0 = eqb-true _ _ q.1 in
        rw (e, u) (at l r ∙ rw (a, b) (sym (at l' r')))

-- a kind that is no fixed time
pub timeless_kinds : (kind : ℕ) → timeless kind ≡ true → (kind ≡ 2 → ⊥) × (kind ≡ 3 → ⊥)
unfolding timeless
timeless_kinds kind h =
    let q = and_both (not (eqb kind 2)) (not (eqb kind 3)) h in
    (eqb-false kind 2 (not-true (eqb kind 2) q.0), eqb-false kind 3 (not-true (eqb kind 3) q.1))
