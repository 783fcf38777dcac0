-- The steps of the pass over table 5: what is asked of all atoms, from those that are left. Assumes nothing.
use mathlib.Core.Path.{◌≡◌, refl, sym}
use mathlib.Core.Bool.{Bool, true, false, ◌&&◌, false≢true}
use mathlib.Core.List.{List}
use Prim.Native.Nat.{ℕ, zero, suc, ◌+◌, ◌*◌, ◌<◌}
use native.Mathlib.Omega.{arith}
use borrow.Author.Tests.{eq-eqb, ne_eqb}
use Rattle.std.specs.Prelude.{Result, Ok, Err}
use Rattle.std.specs.Result.{is_ok}
use Rattle.answers.specs.declared.Done.{Done}
use Rattle.answers.specs.declared.Refusal.{Refusal}
use Rattle.answers.specs.Numbers.{numbers_of}
use Rattle.answers.proofs.Stages.{refused_number, done_number}
use Rattle.words.specs.Lists.{all}
use Rattle.words.specs.Runs.{run}
use Rattle.words.specs.Words.{word}
use Rattle.words.proofs.Laws.{first_word}
use Rattle.book.specs.Rules.{atom_at}
use Rattle.book.specs.Fault.{book_fault}
use Rattle.order.specs.Profile.{timeless, order_bounds, order_atom, all_order, order_only}

-- ---- one atom

-- four words of an atom and what they say of order, as they were read
pub atom_is : (b : List ℕ) (at w0 w2 w4 w5 : ℕ) (left right bounds : Bool) → w0 ≡ word b (at + 0) → left ≡ timeless w0 → w2 ≡ word b (at + 2) → right ≡ timeless w2
    → w4 ≡ word b (at + 4) → w5 ≡ word b (at + 5) → bounds ≡ order_bounds w4 w5 → (left && right && bounds) ≡ order_atom (atom_at b at)
unfolding order_atom atom_at
atom_is b at w0 w2 w4 w5 left right bounds h0 hl h2 hr h4 h5 hb = rw (hl, hr, hb, h0, first_word b at, h2, h4, h5)

-- ---- the atoms one behind another, by their numbers

module _ (b : List ℕ) where
  first : (at : ℕ) (r : Bool) → order_atom (atom_at b (at + 6 * 0)) ≡ r → order_atom (atom_at b at) ≡ r
  first at r h = let e : at + 6 * 0 ≡ at = omega arith in rw e at h

  next : (at i : ℕ) (r : Bool) → order_atom (atom_at b (at + 6 * suc i)) ≡ r → order_atom (atom_at b (at + 6 + 6 * i)) ≡ r
  next at i r h = let e : at + 6 * suc i ≡ at + 6 + 6 * i = omega arith in rw e at h

  each : (n at : ℕ) → ((i : ℕ) → i < n → order_atom (atom_at b (at + 6 * i)) ≡ true) → all order_atom (run (atom_at b) 6 n at) ≡ true
  unfolding all run
  each zero at h = refl
  each (suc n) at h = rw (first at true (h 0 (omega arith)), each n (at + 6) (λ i l. next at i true (h (suc i) (omega arith))))

  one_not : (n at i : ℕ) → i < n → order_atom (atom_at b (at + 6 * i)) ≡ false → all order_atom (run (atom_at b) 6 n at) ≡ false
  unfolding all run
  one_not zero at i l h = absurd (omega arith)
  one_not (suc n) at zero l h = rw (first at false h)
  one_not (suc n) at (suc i) l h = rw (one_not n (at + 6) i (omega arith) (next at i false h)) (no (order_atom (atom_at b at)))
    where
      no : (r : Bool) → (r && false) ≡ false
      no true = refl
      no false = refl

  -- each of table 5 is such, or one isn't
  module _ (n at : ℕ) (many : n ≡ word b 12) (there : at ≡ word b 13) where
    pub all_such : ((i : ℕ) → i < n → order_atom (atom_at b (at + 6 * i)) ≡ true) → true ≡ all_order b
    unfolding all_order
    all_such h = sym (rw (← many, ← there) (each n at h))

    pub one_other : (i : ℕ) → i < n → order_atom (atom_at b (at + 6 * i)) ≡ false → false ≡ all_order b
    unfolding all_order
    one_other i l h = sym (rw (← many, ← there) (one_not n at i l h))

  -- ---- a book that has a fault, and one that hasn't: r is what `check` answered

  pub passed : (r : Result Done Refusal) → numbers_of r ≡ book_fault 1 b → is_ok r ≡ true → all_order b ≡ order_only b
  unfolding order_only
  passed (Ok d) h e = rw (eq-eqb (book_fault 1 b).number 0 (done_number d _ h))
  passed (Err r) h e = absurd (false≢true e)

  pub refused : (r : Result Done Refusal) → numbers_of r ≡ book_fault 1 b → is_ok r ≡ false → false ≡ order_only b
  unfolding order_only
  refused (Err r) h e = rw (ne_eqb (book_fault 1 b).number 0 (refused_number r _ h))
  refused (Ok d) h e = absurd (false≢true (sym e))
