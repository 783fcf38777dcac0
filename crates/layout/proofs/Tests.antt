-- The laws of tests that say what is wrong: in numbers, what it is that they find nothing. Assumes nothing.
use mathlib.Core.Path.{◌≡◌, refl, sym}
use mathlib.Core.Bool.{Bool, true, false, ◌||◌, ◌&&◌, not, true≢false, false≢true}
use mathlib.Core.Logic.{◌↔◌}
use Prim.Native.Nat.{ℕ, ◌≤◌, ◌<◌}
use lib.Dec.{leb, eqb}
use borrow.Author.Tests.{leb-true, leb-false, le-leb, lt-leb, eqb-true, eqb-false, eq-eqb, ne_eqb}

-- one or the other is wrong: neither is
pub or_right : (a c : Bool) → ((a || c) ≡ false) ↔ ((a ≡ false) × (c ≡ false))
or_right true c = (λ h. absurd (true≢false h), λ p. p.0)
or_right false c = (λ h. (refl, h), λ p. p.1)

-- one and the other is wrong: where the one is, the other is not
pub and_right : (a c : Bool) → ((a && c) ≡ false) ↔ (a ≡ true → c ≡ false)
and_right true c = (λ h q. h, λ h. h refl)
and_right false c = (λ h q. absurd (false≢true q), λ h. refl)

-- a test the other way round
pub not_right : (t : Bool) → (not t ≡ false) ↔ (t ≡ true)
not_right true = (λ h. refl, λ h. refl)
not_right false = (λ h. sym h, λ h. sym h)

pub not_so : (t : Bool) → (not t ≡ true) ↔ (t ≡ false)
not_so true = (λ h. sym h, λ h. sym h)
not_so false = (λ h. refl, λ h. refl)

-- at most, and equal, told by numbers
pub le_right : (x y : ℕ) → (leb x y ≡ false) ↔ (y < x)
le_right x y = (leb-false x y, lt-leb x y)

pub le_so : (x y : ℕ) → (leb x y ≡ true) ↔ (x ≤ y)
le_so x y = (leb-true x y, le-leb x y)

pub eq_right : (x y : ℕ) → (eqb x y ≡ false) ↔ (x ≡ y → ⊥)
eq_right x y = (eqb-false x y, ne_eqb x y)

pub eq_so : (x y : ℕ) → (eqb x y ≡ true) ↔ (x ≡ y)
eq_so x y = (eqb-true x y, eq-eqb x y)

-- all of them: `simp plain` says in numbers what a test says
pub ruleset plain = (or_right, and_right, not_right, not_so, le_right, le_so, eq_right, eq_so)
