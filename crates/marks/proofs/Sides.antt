-- Which side of an ask is too early at the marks: if it fails there, no choice of later tokens has it hold unless that side is later. Bounds
-- tell the right side below lower and the left side above upper. Assumes nothing.
use mathlib.Core.Path.{◌≡◌, refl, sym, ap, ◌∙◌}
use mathlib.Core.Bool.{Bool, true, false, ◌&&◌, ◌||◌, cond, false≢true}
use mathlib.Core.List.{List}
use Prim.Native.Nat.{ℕ, zero, suc, ◌+◌, ◌-◌, ◌*◌, ◌≤◌, ◌<◌}
use native.Mathlib.Omega.{arith}
use lib.Dec.{leb, ltb, eqb}
use borrow.Author.Tests.{ltb-false, leb-true, leb-false, ne_eqb}
use Rattle.words.proofs.Laws.{first_word}
use Rattle.words.specs.Words.{word}
use Rattle.clock.specs.declared.Time.{Time}
use Rattle.clock.specs.Clock.{at, no_limit, in_bounds}
use Rattle.layout.specs.Layout.{fifth_width}
use Rattle.book.specs.Rules.{atom_at}
use Rattle.choice.specs.declared.Alternative.{Alternative}
use Rattle.choice.specs.Met.{Choice, token_time, time_of, bounds_hold, atom_holds}
use Rattle.choice.specs.Asked.{ask_holds, all_hold, asks_hold}
use Rattle.choice.proofs.Laws.{all-step}
use Rattle.std.specs.Prelude.{Option, Some, None}
use Rattle.marks.specs.Marked.{Grown, Ahead, Behind, Told, whose, within, ask_at}

pub both_true : (a b : Bool) → (a && b) ≡ true → (a ≡ true) × (b ≡ true)
both_true true b h = (refl, h)
both_true false b h = absurd (false≢true h)

none_true : (a b : Bool) → (a || b) ≡ false → (a ≡ false) × (b ≡ false)
none_true true b h = absurd (false≢true (sym h))
none_true false b h = (refl, h)

one-false : (a b : Bool) → (a && b) ≡ false → a ≡ true → b ≡ false
one-false true b h q = h
one-false false b h q = absurd (false≢true q)

-- ---- what is told

-- a name's number, and 0 for nobody
abbrev code : Option ℕ → ℕ
code (Some x) = suc x
code None = 0

module _ (c : Choice) (n : ℕ) (test : Choice → Bool) where
  pub told-nobody : Told c n None test
  told-nobody = record { behind = λ x h. absurd (omega (arith, ap code h)) }

  pub told_name : (y : ℕ) → Behind c n y test → Told c n (Some y) test
  told_name y f = record { behind = λ x h. let q : y ≡ x = omega (arith, ap code h) in rw q at f }

-- ---- bounds

-- kinds of which something is told
pub few_kinds : (i j : ℕ) → (ltb 3 i || ltb 3 j) ≡ false → (i ≤ 3) × (j ≤ 3)
few_kinds i j h = let q = none_true (ltb 3 i) (ltb 3 j) h in (ltb-false 3 i q.0, ltb-false 3 j q.1)

module _ (n : ℕ) (c d : Choice) (g : Grown n c d) where
  time_grown : (kind x : ℕ) → kind ≤ 3 → time_of c kind x ≤ time_of d kind x
  unfolding time_of
  time_grown zero x h = g.later 0 x (omega arith)
  time_grown (suc zero) x h = g.later 1 x (omega arith)
  time_grown (suc (suc zero)) x h = omega arith
  time_grown (suc (suc (suc zero))) x h = omega (arith, g.last)
  time_grown (suc (suc (suc (suc k)))) x h = absurd (omega arith)

  ahead_named : (kind x : ℕ) (t : Bool) → kind < 2 → leb x n ≡ t → token_time c kind x < token_time d kind x → Ahead c d (cond t x 0)
  ahead_named kind x true k q l = record { kind = kind; token = k; ahead = l }
  ahead_named kind x false k q l = absurd (omega (arith, g.past kind x k (leb-false x n q)))

  pub ahead_whose : (kind x : ℕ) → kind ≤ 3 → time_of c kind x < time_of d kind x → Ahead c d (whose kind x n)
  unfolding time_of whose
  ahead_whose zero x h l = ahead_named 0 x (leb x n) (omega arith) refl l
  ahead_whose (suc zero) x h l = ahead_named 1 x (leb x n) (omega arith) refl l
  ahead_whose (suc (suc zero)) x h l = absurd (omega arith)
  ahead_whose (suc (suc (suc zero))) x h l = absurd (omega (arith, g.last))
  ahead_whose (suc (suc (suc (suc k)))) x h l = absurd (omega arith)

pub whose_few : (kind x n : ℕ) → whose kind x n ≤ n
unfolding whose
whose_few kind x n = go (ltb kind 2) (leb x n) refl
  where
    go : (a t : Bool) → leb x n ≡ t → cond (a && t) x 0 ≤ n
    go true true q = leb-true x n q
    go true false q = omega arith
    go false t q = omega arith

-- what two times are asked
within-times : (i x j y lower upper : ℕ) (d : Choice) → i ≤ 3 → within i x j y lower upper d ≡ in_bounds no_limit (time_of d i x) (time_of d j y) lower upper
unfolding within atom_holds bounds_hold
within-times i x j y lower upper d l = rw (ne_eqb i 4 (λ q. omega arith))

module _ (c : Choice) (n i x j y lower upper : ℕ) (li : i ≤ 3) (lj : j ≤ 3) (left right : Time) (f : Bool) (hl : left ≡ at (time_of c i x))
    (hr : right ≡ at (time_of c j y)) (hf : f ≡ in_bounds no_limit left.tick right.tick lower no_limit) where
  -- right minus left is below lower: the right side is too early
  pub told_right : (r : ℕ) → f ≡ false → r ≡ whose j y n → Told c n (Some r) (within i x j y lower upper)
  unfolding in_bounds
  told_right r nay q =
      rw q
      (told_name c n (within i x j y lower upper) (whose j y n)
      (record { few = whose_few j y n; ahead = λ d g w. ahead_whose n c d g j y lj (later d g (leb-true _ _ (both_true _ _ (sym (within-times i x j y lower upper d li) ∙ w)).0)) }))
    where
      low : right.tick < left.tick + lower
      low = leb-false (left.tick + lower) right.tick (first (leb (left.tick + lower) right.tick) _ (sym hf ∙ nay) refl)
        where
          first : (s t : Bool) → (s && t) ≡ false → t ≡ true → s ≡ false
          first true t h g = absurd (false≢true (sym h ∙ g))
          first false t h g = refl

      later : (d : Choice) → Grown n c d → time_of d i x + lower ≤ time_of d j y → time_of c j y < time_of d j y
      later d g l = omega (arith, low, time_grown n c d g i x li, ap (λ (z : Time). z.tick) hl, ap (λ (z : Time). z.tick) hr)

  -- it is above upper: the left side is
  pub told-left : (r : ℕ) (s : Bool) → s ≡ in_bounds no_limit left.tick right.tick lower upper → s ≡ false → f ≡ true → r ≡ whose i x n
      → Told c n (Some r) (within i x j y lower upper)
  unfolding in_bounds
  told-left r s hs nay yea q =
      rw q
      (told_name c n (within i x j y lower upper) (whose i x n)
      (record { few = whose_few i x n; ahead = λ d g w. ahead_whose n c d g i x li (later d g (leb-true _ _ (other (eqb upper no_limit) _ none.0 (both_true (leb (time_of d i x + lower) (time_of d j y)) _ (sym (within-times i x j y lower upper d li) ∙ w)).1))) }))
    where
      none : (eqb upper no_limit ≡ false) × (leb right.tick (left.tick + upper) ≡ false)
      none = none_true _ _ (one-false (leb (left.tick + lower) right.tick) _ (sym hs ∙ nay) (both_true (leb (left.tick + lower) right.tick) _ (sym hf ∙ yea)).0)

      other : (a t : Bool) → a ≡ false → (a || t) ≡ true → t ≡ true
      other true t h g = absurd (false≢true (sym h))
      other false t h g = g

      later : (d : Choice) → Grown n c d → time_of d j y ≤ time_of d i x + upper → time_of c i x < time_of d i x
      later d g l =
          omega (arith, time_grown n c d g j y lj, leb-false right.tick (left.tick + upper) none.1, ap (λ (z : Time). z.tick) hl, ap (λ (z : Time). z.tick) hr)

-- ---- the ask at a place, and all of them

-- the test may be said otherwise
told_same : (c : Choice) (n : ℕ) (r : Option ℕ) (f g : Choice → Bool) → ((d : Choice) → g d ≡ true → f d ≡ true) → Told c n r f → Told c n r g
told_same c n r f g h t =
    record { behind = λ x q. let k = t.behind x q in record { few = k.few; ahead = λ d s w. k.ahead d s (h d w) } }

-- an atom's six words, as they were read
pub told_atom : (e : ℕ) (b : List ℕ) (c : Choice) (n k i x j y lower upper : ℕ) (r : Option ℕ) → (e ≡ 2 → ⊥) → i ≡ word b (k + 0) → x ≡ word b (k + 1) → j ≡ word b (k + 2)
    → y ≡ word b (k + 3) → lower ≡ word b (k + 4) → upper ≡ word b (k + 5) → Told c n r (within i x j y lower upper) → Told c n r (ask_at e b k)
unfolding within ask_at ask_holds atom_at
told_atom e b c n k i x j y lower upper r ne h0 h1 h2 h3 h4 h5 t = told_same c n r (within i x j y lower upper) (ask_at e b k) (λ d w. is d ∙ w) t
  where
    is : (d : Choice) → within i x j y lower upper d ≡ ask_at e b k d
    is d = rw (ne_eqb e 2 ne, h0, first_word b k, h1, h2, h3, h4, h5)

-- the asks that are left hold if all do
pub record Rests (b : List ℕ) (a : Alternative) (asks place : ℕ) : Type 0 where
  pub on : (d : Choice) → asks_hold b a d ≡ true → all_hold a.edition b d asks place ≡ true

module _ (b : List ℕ) (a : Alternative) where
  pub rests_all : Rests b a a.asks a.ask
  unfolding asks_hold
  rests_all = record { on = λ d h. h }

  split : (d : Choice) (asks place w : ℕ) → (asks ≡ 0 → ⊥) → w ≡ fifth_width a.edition → Rests b a asks place → asks_hold b a d ≡ true
      → (ask_at a.edition b place d ≡ true) × (all_hold a.edition b d (asks - 1) (place + w) ≡ true)
  unfolding ask_at
  split d asks place w some hw f h =
      both_true _ _ (sym (all-step a.edition b d asks place w (ask_holds a.edition b d place) some hw refl) ∙ f.on d h)

  pub rests_next : (asks place w : ℕ) → (asks ≡ 0 → ⊥) → w ≡ fifth_width a.edition → Rests b a asks place → Rests b a (asks - 1) (place + w)
  rests_next asks place w some hw f = record { on = λ d h. (split d asks place w some hw f h).1 }

  -- the asks from number i on
  pub rests_first : (w : ℕ) → Rests b a (a.asks - 0) (a.ask + 0 * w)
  rests_first w =
      let all : a.asks - 0 ≡ a.asks = omega arith in
      let place : a.ask + 0 * w ≡ a.ask = omega arith in
      rw (all, place) rests_all

  pub rests_after : (i w : ℕ) → i < a.asks → w ≡ fifth_width a.edition → Rests b a (a.asks - i) (a.ask + i * w) → Rests b a (a.asks - (i + 1)) (a.ask + (i + 1) * w)
  rests_after i w l hw f =
      let left : (a.asks - i) - 1 ≡ a.asks - (i + 1) = omega arith in
      let place : a.ask + i * w + w ≡ a.ask + (i + 1) * w = omega arith in
      rw (← left, ← place) (rests_next (a.asks - i) (a.ask + i * w) w (λ q. omega arith) hw f)

  pub told_here : (c : Choice) (n asks place w : ℕ) (r s : Option ℕ) → s ≡ r → (asks ≡ 0 → ⊥) → w ≡ fifth_width a.edition → Rests b a asks place
      → Told c n s (ask_at a.edition b place) → Told c n r (asks_hold b a)
  told_here c n asks place w r s hs some hw f t =
      rw hs at (told_same c n s (ask_at a.edition b place) (asks_hold b a) (λ d h. (split d asks place w some hw f h).0) t)
