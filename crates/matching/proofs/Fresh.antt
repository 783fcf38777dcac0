-- Laws of what is kept, for those who keep it: with nothing kept yet nothing is said, and what is kept holds for every later trigger token.
-- Assumes nothing.
use mathlib.Core.Path.{◌≡◌, refl, ◌∙◌}
use mathlib.Core.Bool.{Bool, true, false, false≢true}
use mathlib.Core.List.{List, [], ◌∷◌}
use Prim.Native.Nat.{ℕ, zero, suc, ◌+◌, ◌<◌}
use native.Mathlib.Omega.{arith}
use lib.Dec.{ltb, eqb}
use lib.ListN.{length, get_or, set}
use lib.Seq.{get_or-set_same, get_or-set_other}
use borrow.Author.Tests.{ltb-true, ltb-false, eqb-true, eqb-false}
use Rattle.std.specs.Prelude.{Option, Some, None}
use Rattle.std.proofs.lemmas.List.{get_or_past}
use Rattle.lines.specs.declared.Token.{Token}
use Rattle.choice.specs.declared.Alternative.{Alternative}
use Rattle.marks.specs.declared.Found.{Found}
use Rattle.marks.specs.declared.Found.TheVariants.{Open, NoneNow, NoneEver}
use Rattle.marks.specs.Marked.{Later}
use Rattle.matching.specs.Carried.{Carry, Carried}

-- nothing is kept
abbrev pub bare : List (Option Found) → Bool
bare [] = true
bare (None ∷ xs) = bare xs
bare (Some x ∷ xs) = false

bare_at : (l : List (Option Found)) → bare l ≡ true → (i : ℕ) → get_or l i None ≡ None
bare_at [] h i = refl
bare_at (None ∷ xs) h zero = refl
bare_at (None ∷ xs) h (suc i) = bare_at xs h i
bare_at (Some x ∷ xs) h i = absurd (false≢true h)

pub later_trans : {s t u : Token} → Later s t → Later t u → Later s u
later_trans f g = record { start = omega (arith, f.start, g.start); end = omega (arith, f.end, g.end) }

module _ (b p : List ℕ) (a : Alternative) (t : Token) where
  carry_none : (k : Option Found) → k ≡ None → Carry b p a t k
  carry_none k h = rw h tt

  pub carry_later : (u : Token) (k : Option Found) → Later t u → Carry b p a t k → Carry b p a u k
  carry_later u None f g = tt
  carry_later u (Some (Open m)) f g = record { old = g.old; later = later_trans g.later f; marked = g.marked }
  carry_later u (Some (NoneNow m)) f g = record { old = g.old; later = later_trans g.later f; marked = g.marked }
  carry_later u (Some NoneEver) f g = record { never = λ z h. g.never z (later_trans f h) }

module _ (e : ℕ) (b p : List ℕ) (t : Token) where
  pub carried_fresh : (n base : ℕ) (l : List (Option Found)) → length l ≡ 64 → bare l ≡ true → Carried e b p t n base l
  carried_fresh n base l h z = record { long = h; each = λ i g. carry_none b p _ t (get_or l i None) (bare_at l z i) }

  pub carried_later : (u : Token) (n base : ℕ) (l : List (Option Found)) → Later t u → Carried e b p t n base l → Carried e b p u n base l
  carried_later u n base l f k = record { long = k.long; each = λ i g. carry_later b p _ t u (get_or l i None) f (k.each i g) }

  -- nothing is kept of the first n, and past the last place nothing can be
  pub carried_bare : (n base : ℕ) (l : List (Option Found)) → length l ≡ 64 → ((j : ℕ) → j < n → j < 64 → get_or l j None ≡ None) → Carried e b p t n base l
  carried_bare n base l h z = record { long = h; each = λ i g. carry_none b p _ t (get_or l i None) (by i g (ltb i 64) refl) }
    where
      by : (i : ℕ) → i < n → (q : Bool) → ltb i 64 ≡ q → get_or l i None ≡ None
      by i g true q = z i g (ltb-true i 64 q)
      by i g false q = get_or_past l i None (let m = ltb-false i 64 q in omega (arith, h, m))

-- one place more is emptied
pub none_more : (l : List (Option Found)) (i : ℕ) → i < length l → ((j : ℕ) → j < i → get_or l j None ≡ None) → (j : ℕ) → j < i + 1 → get_or (set l i None) j None ≡ None
none_more l i g h j k = by (eqb j i) refl
  where
    below : (a b : ℕ) → a < b + 1 → (a ≡ b → ⊥) → a < b
    below a b m f = lt_by (ltb a b) refl
      where
        lt_by : (q : Bool) → ltb a b ≡ q → a < b
        lt_by true q = ltb-true a b q
        lt_by false q = absurd (f (let m2 = ltb-false a b q in omega arith))

    by : (q : Bool) → eqb j i ≡ q → get_or (set l i None) j None ≡ None
    by true q = let e = eqb-true j i q in rw e (get_or-set_same l i None None g)
    by false q = let f = eqb-false j i q in get_or-set_other l i j None None f ∙ h j (below j i k f)
