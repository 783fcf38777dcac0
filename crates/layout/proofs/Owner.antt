-- The laws of a cursor: it starts at 0, the owner is one, no cursor is past the owner, and what was passed for a number is passed for every
-- later one. Assumes nothing.
use mathlib.Core.Path.{◌≡◌}
use mathlib.Core.List.{List}
use Prim.Native.Nat.{ℕ, ◌+◌, ◌≤◌}
use native.Mathlib.Omega.{arith}
use borrow.Author.Tests.{le-ltb, ltb-false}
use Rattle.words.proofs.Least.{clear_none, least_law, least_ge}
use Rattle.layout.specs.Layout.{count, ends, reaches, owner}
use Rattle.layout.specs.Owner.{Cursor}

pub cursor_start : (e : ℕ) (b : List ℕ) (t j i : ℕ) → Cursor e b t j i 0
cursor_start e b t j i = record { within = omega arith; passed = clear_none _ }

-- the owner is one, no cursor is past it, and what was passed for i is passed for every later number
pub cursor_at : (e : ℕ) (b : List ℕ) (t j i : ℕ) → Cursor e b t j i (owner e b t j i)
unfolding owner
cursor_at e b t j i = let l = least_law (count b t) (reaches e b t j i) in record { within = l.within; passed = l.clear }

pub cursor_le : {e : ℕ} {b : List ℕ} {t j i v : ℕ} → Cursor e b t j i v → v ≤ owner e b t j i
unfolding owner
cursor_le {e} {b} {t} {j} {i} c = least_ge (count b t) (reaches e b t j i) _ c.passed c.within

pub cursor_later : {e : ℕ} {b : List ℕ} {t j i v : ℕ} (k : ℕ) → i ≤ k → Cursor e b t j i v → Cursor e b t j k v
cursor_later {e} {b} {t} {j} {i} k h c =
    record {
      within = c.within;
      passed = λ m p. le-ltb k (ends e b t j m) (omega (arith, ltb-false i (ends e b t j m) (c.passed m p)));
    }

-- the same as a loop's record has them, for `search (needs, scan, cursors)`: v is the local that an owner was found for
pub cursor_here : {e : ℕ} {b : List ℕ} {t j i v : ℕ} → v ≡ owner e b t j i → Cursor e b t j i v
cursor_here {e} {b} {t} {j} {i} h = rw h (cursor_at e b t j i)

pub cursor_step : {e : ℕ} {b : List ℕ} {t j v : ℕ} (i : ℕ) → v ≡ owner e b t j i → Cursor e b t j (i + 1) v
cursor_step i h = cursor_later (i + 1) (omega arith) (cursor_here h)

-- a cursor into a table whose numbers are themselves a cursor: a has moved on to w
pub cursor_carry : {e : ℕ} {b : List ℕ} {t j i a w s k r : ℕ} → Cursor e b t j i a → w ≡ owner e b t j i → Cursor e b s k a r → Cursor e b s k w r
cursor_carry {w = w} c h d = cursor_later w (rw h (cursor_le c)) d

pub ruleset cursors = (cursor_start, cursor_here, cursor_step, cursor_carry)
