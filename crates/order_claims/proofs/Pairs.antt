-- Two lists whose elements go together one by one: tests that agree on each pair come to the same. Assumes nothing.
use mathlib.Core.Path.{◌≡◌, refl, ap}
use mathlib.Core.Bool.{Bool}
use mathlib.Core.List.{List, [], ◌∷◌}
use Prim.Native.Nat.{ℕ, suc, ◌<◌}
use native.Mathlib.Omega.{arith}
use lib.ListN.{length, get_or}
use Rattle.words.specs.Lists.{any}
use Rattle.words.specs.Least.{first}
use Rattle.verdict.specs.Judged.{counted}
use Rattle.order_claims.specs.Pairs.{Pairs}

module _ {A B : Type 0} (R : A → B → Type 0) where
  -- they are equally long
  pub pairs_length : (xs : List A) (ys : List B) → Pairs R xs ys → length xs ≡ length ys
  pairs_length [] [] h = refl
  pairs_length [] (y ∷ ys) h = absurd h
  pairs_length (x ∷ xs) [] h = absurd h
  pairs_length (x ∷ xs) (y ∷ ys) h = ap suc (pairs_length xs ys h.1)

  -- what follows from R for each pair
  pub pairs_to : (S : A → B → Type 0) → ((x : A) (y : B) → R x y → S x y) → (xs : List A) (ys : List B) → Pairs R xs ys → Pairs S xs ys
  pairs_to S f [] [] h = tt
  pairs_to S f [] (y ∷ ys) h = absurd h
  pairs_to S f (x ∷ xs) [] h = absurd h
  pairs_to S f (x ∷ xs) (y ∷ ys) h = (f x y h.0, pairs_to S f xs ys h.1)

  module _ (p : A → Bool) (q : B → Bool) (agree : (x : A) (y : B) → R x y → p x ≡ q y) where
    -- one passes just where one of the others does
    pub pairs_any : (xs : List A) (ys : List B) → Pairs R xs ys → any p xs ≡ any q ys
    unfolding any
    pairs_any [] [] h = refl
    pairs_any [] (y ∷ ys) h = absurd h
    pairs_any (x ∷ xs) [] h = absurd h
    pairs_any (x ∷ xs) (y ∷ ys) h = rw (agree x y h.0, pairs_any xs ys h.1)

    -- the first that does stands at the same place
    pub pairs_first : (xs : List A) (ys : List B) → Pairs R xs ys → first p xs ≡ first q ys
    unfolding first
    pairs_first [] [] h = refl
    pairs_first [] (y ∷ ys) h = absurd h
    pairs_first (x ∷ xs) [] h = absurd h
    pairs_first (x ∷ xs) (y ∷ ys) h = rw (agree x y h.0, pairs_first xs ys h.1)

    -- and as many do
    pub pairs_counted : (xs : List A) (ys : List B) → Pairs R xs ys → counted p xs ≡ counted q ys
    unfolding counted
    pairs_counted [] [] h = refl
    pairs_counted [] (y ∷ ys) h = absurd h
    pairs_counted (x ∷ xs) [] h = absurd h
    pairs_counted (x ∷ xs) (y ∷ ys) h = rw (agree x y h.0, pairs_counted xs ys h.1)

-- two lists of the same length whose elements go together index by index
pub pairs_of : {A : Type 0} (R : A → A → Type 0) (d : A) (xs ys : List A) → length xs ≡ length ys
    → ((i : ℕ) → i < length xs → R (get_or xs i d) (get_or ys i d)) → Pairs R xs ys
pairs_of R d [] [] e h = tt
pairs_of R d [] (y ∷ ys) e h = absurd (omega arith)
pairs_of R d (x ∷ xs) [] e h = absurd (omega arith)
pairs_of R d (x ∷ xs) (y ∷ ys) e h = (h 0 (omega arith), pairs_of R d xs ys (omega arith) (λ i l. h (suc i) (omega arith)))
