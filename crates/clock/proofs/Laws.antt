-- The laws of `later` and `in_bounds`, for any mark: which case of `later` it is, that `in_bounds` tests the difference of whole numbers, what
-- it says in plain numbers, and the specimens of its bounds. Assumes nothing.
use mathlib.Core.Path.{◌≡◌, refl, sym, ap, ◌∙◌}
use mathlib.Core.Logic.{◌↔◌, ◌⊎◌, inl, inr, ⊎_elim}
use mathlib.Core.Bool.{Bool, true, false, ◌&&◌, ◌||◌, cond, false≢true}
use Prim.Native.Nat.{ℕ, ◌+◌, ◌-◌, ◌≤◌, ◌<◌}
use native.Mathlib.Nat.{zero-add}
use native.Mathlib.Omega.{arith}
use lib.IntN.{pos, sub_ℕ}
use lib.Signed.{le_z}
use lib.Dec.{leb, ltb, eqb}
use borrow.Author.Tests.{ltb-true, ltb-false, lt-ltb, le-ltb, leb-true, leb-false, le-leb, lt-leb, eqb-true, eq-eqb}
use Rattle.clock.specs.declared.Time.{Time}
use Rattle.std.specs.Prelude.{Some, None}
use Rattle.clock.specs.Clock.{no_limit, at, later, in_bounds}

-- a sum up to the last tick is a time
pub later-at : (last t d : ℕ) → t + d ≤ last → later last t d ≡ Some (at (t + d))
unfolding later
later-at last t d h = rw (le-leb (t + d) last h)

-- a sum above it is past
pub later_past : (last t d : ℕ) → last < t + d → later last t d ≡ None
unfolding later
later_past last t d h = rw (lt-leb (t + d) last h)

-- and back: which case it is says how the test came out, and how the sum stands to the last tick
pub case_past : (t : Bool) (x : Time) → cond t (Some x) None ≡ None → t ≡ false
case_past true x h = cc
case_past false x h = refl

pub case_at : (t : Bool) (x e : Time) → cond t (Some x) None ≡ Some e → (t ≡ true) × (x ≡ e)
case_at true x e h = (refl, cc)
case_at false x e h = (cc, cc)

pub past_is : (last t d : ℕ) → later last t d ≡ None → ltb last (t + d) ≡ true
unfolding later
past_is last t d h = lt-ltb last (t + d) (leb-false (t + d) last (case_past (leb (t + d) last) (at (t + d)) h))

pub at-is : (last t d : ℕ) (end : Time) → later last t d ≡ Some end → (ltb last (t + d) ≡ false) × (end.tick ≡ t + d)
unfolding later
at-is last t d end h =
    let q = case_at (leb (t + d) last) (at (t + d)) end h in
    (le-ltb last (t + d) (leb-true (t + d) last q.0), ap (λ (x : Time). x.tick) (sym q.1))

-- a test of order told as one of two orders
test : (a b : ℕ) (t : Bool) → ltb a b ≡ t → (a < b) ⊎ (b ≤ a)
test a b true e = inl (ltb-true a b e)
test a b false e = inr (ltb-false a b e)

-- one number is below another or not
pub lt_or_ge : (a b : ℕ) → (a < b) ⊎ (b ≤ a)
lt_or_ge a b = test a b (ltb a b) refl

-- two tests agree where each order follows from the other
pub same_test : (a b c d : ℕ) → (a ≤ b → c ≤ d) → (c ≤ d → a ≤ b) → leb a b ≡ leb c d
same_test a b c d f g =
    ⊎_elim (λ (h : b < a). ⊎_elim (λ (k : d < c). lt-leb a b h ∙ sym (lt-leb c d k)) (λ (k : c ≤ d). absurd (omega (arith, g k))) (lt_or_ge d c))
    (λ (h : a ≤ b). le-leb a b h ∙ sym (le-leb c d (f h))) (lt_or_ge b a)

-- right - left, which may be negative, is at least a bound
pub at_least : (left right lower : ℕ) → le_z (pos lower) (sub_ℕ right left) ≡ leb (left + lower) right
at_least left right lower =
    ⊎_elim (λ (h : right < left). simp (lt-ltb right left h) (sym (lt-leb (left + lower) right (omega arith))))
    (λ (h : left ≤ right). simp (le-ltb right left h) (same_test lower (right - left) (left + lower) right (λ p. omega arith) (λ p. omega arith)))
    (lt_or_ge right left)

-- right - left is at most a bound
pub at_most : (left right upper : ℕ) → le_z (sub_ℕ right left) (pos upper) ≡ leb right (left + upper)
at_most left right upper =
    ⊎_elim (λ (h : right < left). simp (lt-ltb right left h) (sym (le-leb right (left + upper) (omega arith))))
    (λ (h : left ≤ right). simp (le-ltb right left h) (same_test (right - left) upper right (left + upper) (λ p. omega arith) (λ p. omega arith)))
    (lt_or_ge right left)

-- `in_bounds` is the test of the difference of whole numbers, for any mark
pub whole : (none left right lower upper : ℕ)
    → in_bounds none left right lower upper ≡ (le_z (pos lower) (sub_ℕ right left) && (eqb upper none || le_z (sub_ℕ right left) (pos upper)))
unfolding in_bounds
whole none left right lower upper = simp (at_least, at_most)

-- a right that comes before left is in no bounds
pub in_before : (none left right lower upper : ℕ) → right < left → in_bounds none left right lower upper ≡ false
in_before none left right lower upper h = whole none left right lower upper ∙ simp (lt-ltb right left h)

-- from left on, the difference is tested against each bound
pub in_after : (none left right lower upper : ℕ) → left ≤ right
    → in_bounds none left right lower upper ≡ (leb lower (right - left) && (eqb upper none || leb (right - left) upper))
in_after none left right lower upper h = whole none left right lower upper ∙ simp (le-ltb right left h)

-- both tests hold; one of them does
both : (a c : Bool) → ((a && c) ≡ true) ↔ ((a ≡ true) × (c ≡ true))
both true c = (λ h. (refl, h), λ p. p.1)
both false c = (λ h. absurd (false≢true h), λ p. p.0)

either : (a c : Bool) → ((a || c) ≡ true) ↔ ((a ≡ true) ⊎ (c ≡ true))
either true c = (λ h. inl refl, λ p. refl)
either false c = (λ h. inr h, λ p. ⊎_elim (λ q. absurd (false≢true q)) (λ q. q) p)

-- THE LAW ON BOUNDS, for any width and mark: right is at least lower after left and, unless that is the mark, at most upper after it
pub bounds_iff : (none left right lower upper : ℕ)
    → (in_bounds none left right lower upper ≡ true) ↔ ((left + lower ≤ right) × ((upper ≡ none) ⊎ (right ≤ left + upper)))
unfolding in_bounds
bounds_iff none left right lower upper = (
  λ h.
      let p = (both _ _).0 h in
      (leb-true _ _ p.0, ⊎_elim (λ q. inl (eqb-true _ _ q)) (λ q. inr (leb-true _ _ q)) ((either _ _).0 p.1)),
  λ p. (both _ _).1 (le-leb _ _ p.0, (either _ _).1 (⊎_elim (λ q. inl (eq-eqb _ _ q)) (λ q. inr (le-leb _ _ q)) p.1)),
)

-- a duration is a difference from 0
pub lasts_iff : (none least greatest d : ℕ) → (in_bounds none 0 d least greatest ≡ true) ↔ ((least ≤ d) × ((greatest ≡ none) ⊎ (d ≤ greatest)))
lasts_iff none least greatest d = rw (zero-add least, zero-add greatest) at (bounds_iff none 0 d least greatest)

-- "Bounds 10..20: differences 9 and 21 fail, 10 and 20 hold"; a right that comes first fails; no limit is none
pub specimens : (in_bounds no_limit 5 14 10 20 ≡ false) × (in_bounds no_limit 5 26 10 20 ≡ false) × (in_bounds no_limit 5 15 10 20 ≡ true)
    × (in_bounds no_limit 5 25 10 20 ≡ true) × (in_bounds no_limit 7 3 0 no_limit ≡ false) × (in_bounds no_limit 0 1000000000 0 no_limit ≡ true)
unfolding in_bounds
specimens = (refl, refl, refl, refl, refl, refl)
