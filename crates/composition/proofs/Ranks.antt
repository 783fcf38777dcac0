-- Ends taken down to their ranks: the rank of an end is how many of all the ends are smaller. Ranks lie to each other as the ends do, so that
-- stretches stand in the same relations; and they are below the number of ends. Assumes nothing.
use mathlib.Core.Path.{◌≡◌, refl, sym, ap, ◌∙◌}
use mathlib.Core.Bool.{Bool, true, false, cond}
use mathlib.Core.List.{List, [], ◌∷◌}
use Prim.Native.Nat.{ℕ, zero, suc, ◌+◌, ◌≤◌, ◌<◌}
use native.Mathlib.Omega.{arith}
use lib.Dec.{ltb, eqb}
use lib.ListN.{length, get_or}
use borrow.Author.Tests.{ltb-true, ltb-false, lt-ltb, le-ltb, eq-eqb, ne_eqb}
use Rattle.allen.specs.One.{Like}

-- 1 where y is smaller than x
abbrev one : ℕ → ℕ → ℕ
one y x = cond (ltb y x) 1 0

-- how many of the list are smaller than x
unfoldable pub rank : List ℕ → ℕ → ℕ
rank [] x = 0
rank (y ∷ ys) x = one y x + rank ys x

step : (a b : Bool) (y x z : ℕ) → ltb y x ≡ a → ltb y z ≡ b → x ≤ z → cond a 1 0 ≤ cond b 1 0
step true true y x z e f h = omega arith
step true false y x z e f h = omega (arith, ltb-true y x e, ltb-false y z f)
step false true y x z e f h = omega arith
step false false y x z e f h = omega arith

one_le : (y x z : ℕ) → x ≤ z → one y x ≤ one y z
one_le y x z h = step (ltb y x) (ltb y z) y x z refl refl h

rank_le : (l : List ℕ) (x z : ℕ) → x ≤ z → rank l x ≤ rank l z
unfolding rank
rank_le [] x z h = omega arith
rank_le (y ∷ ys) x z h = omega (arith, one_le y x z h, rank_le ys x z h)

rank_lt : (l : List ℕ) (i z : ℕ) → i < length l → get_or l i 0 < z → rank l (get_or l i 0) < rank l z
unfolding rank
rank_lt [] i z h e = absurd (omega arith)
rank_lt (y ∷ ys) zero z h e = rw (le-ltb y y (omega arith), lt-ltb y z e) (omega (arith, rank_le ys y z (omega arith)))
rank_lt (y ∷ ys) (suc i) z h e = omega (arith, one_le y (get_or ys i 0) z (omega arith), rank_lt ys i z (omega arith) e)

one-one : (b : Bool) → cond b 1 0 ≤ 1
one-one true = omega arith
one-one false = omega arith

rank-length : (l : List ℕ) (x : ℕ) → rank l x ≤ length l
unfolding rank
rank-length [] x = omega arith
rank-length (y ∷ ys) x = omega (arith, one-one (ltb y x), rank-length ys x)

pub rank_below : (l : List ℕ) (i : ℕ) → i < length l → rank l (get_or l i 0) < length l
rank_below l i h = omega (arith, rank_lt l i (suc (get_or l i 0)) h (omega arith), rank-length l (suc (get_or l i 0)))

-- a and b lie to each other as x and y do
record Alike (x y a b : ℕ) : Type 0 where
  less : ltb x y ≡ ltb a b
  equal : eqb x y ≡ eqb a b

alike : (t u : Bool) (x y a b : ℕ) → ltb x y ≡ t → ltb y x ≡ u → (x < y → a < b) → (y < x → b < a) → (x ≡ y → a ≡ b) → Alike x y a b
alike true u x y a b e f less more equal =
    let h = ltb-true x y e in
    let l = less h in
    record { less = e ∙ sym (lt-ltb a b l); equal = ne_eqb x y (λ q. omega arith) ∙ sym (ne_eqb a b (λ q. omega arith)) }
alike false true x y a b e f less more equal =
    let h = ltb-true y x f in
    let l = more h in
    record { less = e ∙ sym (le-ltb a b (omega arith)); equal = ne_eqb x y (λ q. omega arith) ∙ sym (ne_eqb a b (λ q. omega arith)) }
alike false false x y a b e f less more equal =
    let q : x ≡ y = omega (arith, ltb-false x y e, ltb-false y x f) in
    let l = equal q in
    record { less = e ∙ sym (le-ltb a b (omega arith)); equal = eq-eqb x y q ∙ sym (eq-eqb a b l) }

module _ (l : List ℕ) where
  abbrev pub end : ℕ → ℕ
  end i = get_or l i 0

  abbrev pub place : ℕ → ℕ
  place i = rank l (get_or l i 0)

  ends_alike : (i j : ℕ) → i < length l → j < length l → Alike (end i) (end j) (place i) (place j)
  ends_alike i j h k =
      alike (ltb (end i) (end j)) (ltb (end j) (end i)) (end i) (end j) (place i) (place j) refl refl (rank_lt l i (end j) h) (rank_lt l j (end i) k)
      (ap (rank l))

  -- the ranks of a stretch are a stretch
  pub rank_stretch : (i j : ℕ) → i < length l → end i < end j → place i < place j
  rank_stretch i j h e = rank_lt l i (end j) h e

  -- and two stretches lie to each other as those of their ranks do
  pub rank_like : (i j i' j' : ℕ) → i < length l → j < length l → i' < length l → j' < length l
      → Like (end i) (end j) (end i') (end j') (place i) (place j) (place i') (place j')
  rank_like i j i' j' a b a' b' =
      record {
        before = (ends_alike j i' b a').less;
        meets = (ends_alike j i' b a').equal;
        after = (ends_alike j' i b' a).less;
        met = (ends_alike j' i b' a).equal;
        into = (ends_alike i' j a' b).less;
        onto = (ends_alike i j' a b').less;
        starts = (ends_alike i i' a a').less;
        started = (ends_alike i' i a' a).less;
        level = (ends_alike i i' a a').equal;
        levelled = (ends_alike i' i a' a).equal;
        ends = (ends_alike j j' b b').less;
        ended = (ends_alike j' j b' b).less;
        flush = (ends_alike j j' b b').equal;
        flushed = (ends_alike j' j b' b).equal;
      }
