-- A pass over a list, step by step. Assumes nothing.
use mathlib.Core.Path.{◌≡◌, refl, sym}
use mathlib.Core.Bool.{Bool, true, false, not}
use mathlib.Core.List.{List, [], ◌∷◌, flat_map, append-nil}
use Prim.Native.Nat.{ℕ, ◌+◌, ◌-◌}
use native.Mathlib.Nat.{add-zero}
use native.Mathlib.Omega.{arith}
use lib.ListN.{length, set}
use borrow.Author.Tests.{eq-eqb, ne_eqb}
use Rattle.words.specs.Words.{word}
use Rattle.words.specs.Write.{Wrote}
use Rattle.words.proofs.Write.{none}
use Rattle.event_list.specs.Events.{plan_token}
use Rattle.event_list.specs.Words.{action_width}
use Rattle.event_list.specs.Plans.{token_words, line_words}
use Rattle.event_list.specs.Reading.{action_job, ends_here, add_ticks, next_place, next_left, next_ticks, closes, closed}
use Rattle.reading.specs.declared.Pass.{Pass}
use Rattle.reading.specs.Pass.{step, closes_at, closed_at}

-- ---- a step

module _ (w : List ℕ) (x : ℕ) (p : Pass) where
  -- an event begins
  pub step-event : p.left ≡ 0 → (r : Pass) → r.place ≡ p.place + 2 → r.left ≡ word w (p.place + 1)
      → r.ticks ≡ add_ticks p.ticks (word w p.place) → r ≡ step w x p
  unfolding next_place next_left next_ticks
  step-event h r place left ticks = rw (eq-eqb p.left 0 h, ← place, ← left, ← ticks)

  -- an action that ends the line's token, or another
  module _ (h : p.left ≡ 0 → ⊥) (r : Pass) (place : r.place ≡ p.place + action_width (word w 0)) (left : r.left ≡ p.left - 1)
      (t : Bool) (e : t ≡ ends_here w x p.place) where
    pub step-ends : t ≡ true → r.ticks ≡ 0 → r ≡ step w x p
    unfolding next_place next_left next_ticks
    step-ends y ticks = rw (ne_eqb p.left 0 h, ← place, ← left, ← e, y, ← ticks)

    pub step_other : t ≡ false → r.ticks ≡ p.ticks → r ≡ step w x p
    unfolding next_place next_left next_ticks
    step_other y ticks = rw (ne_eqb p.left 0 h, ← place, ← left, ← e, y, ← ticks)

  pub closes-event : p.left ≡ 0 → false ≡ closes_at w x p
  unfolding closes
  closes-event h = rw (eq-eqb p.left 0 h)

  pub closes-action : (p.left ≡ 0 → ⊥) → ends_here w x p.place ≡ closes_at w x p
  unfolding closes
  closes-action h = rw (ne_eqb p.left 0 h)

-- ---- a token is put

module _ (value ticks job at : ℕ) (l : List ℕ) {e e₀ : ℕ} {m n : List ℕ} (is : e ≡ e₀) where
  pub put-wide : {k : List ℕ} → e ≡ 2 → m ≡ set l at value → n ≡ set m (at + 1) ticks → k ≡ set n (at + 2) job
      → Wrote l k at (at + 3) (token_words e₀ (plan_token value ticks job))
  unfolding token_words
  put-wide h a b c = let third : at + 2 ≡ at + 1 + 1 = omega arith in record { same = rw (← is, eq-eqb e 2 h, c, third, b, a); next = rw (← is, eq-eqb e 2 h) (omega arith) }

  pub put_narrow : (e ≡ 2 → ⊥) → m ≡ set l at value → n ≡ set m (at + 1) ticks
      → Wrote l n at (at + 2) (token_words e₀ (plan_token value ticks job))
  unfolding token_words
  put_narrow h a b = record { same = rw (← is, ne_eqb e 2 h, b, a); next = rw (← is, ne_eqb e 2 h) (omega arith) }

-- ---- a token is closed, or none

not-true : (t : Bool) → not t ≡ true → t ≡ false
not-true false h = refl
not-true true h = sym h

not-false : (t : Bool) → not t ≡ false → t ≡ true
not-false true h = refl
not-false false h = sym h

module _ (w : List ℕ) (x : ℕ) (p : Pass) {t : Bool} (is : t ≡ closes_at w x p) where
  none-closed : not t ≡ true → closed_at w x p ≡ []
  unfolding closed
  none-closed h = rw (← is, not-true t h)

  one-closed : not t ≡ false → closed_at w x p ≡ plan_token (word w (p.place + 1)) p.ticks (action_job w p.place) ∷ []
  unfolding closed
  one-closed h = rw (← is, not-false t h)

  pub closed_none : {l : List ℕ} {at : ℕ} → not t ≡ true → Wrote l l at at (line_words (word w 0) (closed_at w x p))
  unfolding line_words flat_map
  closed_none {l} {at} h = rw (none-closed h) (none l at)

  pub closed-none-long : {k : ℕ} → not t ≡ true → k ≡ k + length (closed_at w x p)
  closed-none-long {k} h = rw (none-closed h) (sym (add-zero k))

  pub closed-one : {l m : List ℕ} {at next value job : ℕ} → not t ≡ false → value ≡ word w (p.place + 1) → job ≡ action_job w p.place
      → Wrote l m at next (token_words (word w 0) (plan_token value p.ticks job))
      → Wrote l m at next (line_words (word w 0) (closed_at w x p))
  unfolding line_words flat_map
  closed-one {value = value} {job = job} h v j q = rw (one-closed h, append-nil, ← v, ← j) q

  pub closed-one-long : (k : ℕ) → not t ≡ false → k + 1 ≡ k + length (closed_at w x p)
  closed-one-long k h = rw (one-closed h)
