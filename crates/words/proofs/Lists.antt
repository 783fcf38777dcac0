-- The laws of what specs/Lists defines. Assumes nothing.
use mathlib.Core.Path.{◌≡◌, refl, sym, ◌∙◌}
use mathlib.Core.Bool.{Bool, true, false, ◌&&◌, ◌||◌}
use Prim.Native.Nat.{ℕ, zero, suc}
use lib.ListN.{get_or}
use mathlib.Core.List.{List, [], ◌∷◌, ◌++◌, map, flat_map}
use Rattle.words.specs.Lists.{any, all, All}

-- ---- laws of the two connectives

pub or_false : (a : Bool) → (a || false) ≡ a
or_false true = refl
or_false false = refl

pub or_assoc : (a b c : Bool) → (a || b || c) ≡ (a || (b || c))
or_assoc true b c = refl
or_assoc false b c = refl

pub and-false : (a : Bool) → (a && false) ≡ false
and-false true = refl
and-false false = refl

pub and-true : (a : Bool) → (a && true) ≡ a
and-true true = refl
and-true false = refl

pub and_assoc : (a b c : Bool) → (a && b && c) ≡ (a && (b && c))
and_assoc true b c = refl
and_assoc false b c = refl

pub or_and : (a b c : Bool) → ((a || b) && c) ≡ (a && c || b && c)
or_and true true c = or_self c
  where
    or_self : (c : Bool) → c ≡ (c || c)
    or_self true = refl
    or_self false = refl
or_and true false c = sym (or_false c)
or_and false b c = refl

-- (a or b) or (c or d), regrouped
pub or_swap : (a b c d : Bool) → (a || b || (c || d)) ≡ (a || c || (b || d))
or_swap true b c d = refl
or_swap false true true d = refl
or_swap false true false d = refl
or_swap false false true d = refl
or_swap false false false d = refl

-- ---- laws of the two tests

module _ {A : Type 0} where
  -- of two lists, one behind the other
  pub any_append : (p : A → Bool) (xs ys : List A) → any p (xs ++ ys) ≡ (any p xs || any p ys)
  unfolding any
  any_append p [] ys = refl
  any_append p (x ∷ xs) ys = rw (any_append p xs ys) (sym (or_assoc (p x) (any p xs) (any p ys)))

  pub all_append : (p : A → Bool) (xs ys : List A) → all p (xs ++ ys) ≡ (all p xs && all p ys)
  unfolding all
  all_append p [] ys = refl
  all_append p (x ∷ xs) ys = rw (all_append p xs ys) (sym (and_assoc (p x) (all p xs) (all p ys)))

  -- equal tests give the same
  pub any_same : (p q : A → Bool) → ((x : A) → p x ≡ q x) → (xs : List A) → any p xs ≡ any q xs
  unfolding any
  any_same p q h [] = refl
  any_same p q h (x ∷ xs) = rw (h x, any_same p q h xs)

  pub all_same : (p q : A → Bool) → ((x : A) → p x ≡ q x) → (xs : List A) → all p xs ≡ all q xs
  unfolding all
  all_same p q h [] = refl
  all_same p q h (x ∷ xs) = rw (h x, all_same p q h xs)

  -- a test that nothing passes
  pub any_none : (xs : List A) → any (λ x. false) xs ≡ false
  unfolding any
  any_none [] = refl
  any_none (x ∷ xs) = any_none xs

  -- a test that does not look at the element goes out of `any`
  pub any-and : (b : Bool) (p : A → Bool) (xs : List A) → any (λ x. b && p x) xs ≡ (b && any p xs)
  any-and true p xs = refl
  any-and false p xs = any_none xs

  pub any_and_right : (p : A → Bool) (b : Bool) (xs : List A) → any (λ x. p x && b) xs ≡ (any p xs && b)
  unfolding any
  any_and_right p b [] = refl
  any_and_right p b (x ∷ xs) = rw (any_and_right p b xs) (sym (or_and (p x) (any p xs) b))

  pub any_or : (p q : A → Bool) (xs : List A) → any (λ x. p x || q x) xs ≡ (any p xs || any q xs)
  unfolding any
  any_or p q [] = refl
  any_or p q (x ∷ xs) = rw (any_or p q xs) (or_swap (p x) (q x) (any p xs) (any q xs))

module _ {A B : Type 0} where
  -- a test of what is made from each element
  pub any-map : (p : B → Bool) (f : A → B) (xs : List A) → any p (map f xs) ≡ any (λ x. p (f x)) xs
  unfolding any
  any-map p f [] = refl
  any-map p f (x ∷ xs) = rw (any-map p f xs)

  pub any_flat : (p : B → Bool) (f : A → List B) (xs : List A) → any p (flat_map f xs) ≡ any (λ x. any p (f x)) xs
  unfolding any flat_map
  any_flat p f [] = refl
  any_flat p f (x ∷ xs) = any_append p (f x) (flat_map f xs) ∙ rw (any_flat p f xs)

  -- two choices that do not depend on each other change places
  pub any-any : (p : A → B → Bool) (xs : List A) (ys : List B) → any (λ x. any (p x) ys) xs ≡ any (λ y. any (λ x. p x y) xs) ys
  unfolding any
  any-any p [] ys = sym (any_none ys)
  any-any p (x ∷ xs) ys = rw (any-any p xs ys) (sym (any_or (p x) (λ y. any (λ x. p x y) xs) ys))

-- it holds of the element at an index, and of what stands for those past the end
pub all_get : {A : Type 0} (P : A → Type 0) (d : A) → P d → (xs : List A) (i : ℕ) → All P xs → P (get_or xs i d)
all_get P d hd [] i h = hd
all_get P d hd (x ∷ xs) zero h = h.0
all_get P d hd (x ∷ xs) (suc i) h = all_get P d hd xs i h.1

-- one element more at the end
pub all_snoc : {A : Type 0} (P : A → Type 0) (xs : List A) (x : A) → All P xs → P x → All P (xs ++ (x ∷ []))
all_snoc P [] x h q = (q, tt)
all_snoc P (y ∷ xs) x h q = (h.0, all_snoc P xs x h.1 q)

-- tests that agree where P holds give the same on a list of such elements
pub any_on : {A : Type 0} (P : A → Type 0) (p q : A → Bool) → ((x : A) → P x → p x ≡ q x) → (xs : List A) → All P xs → any p xs ≡ any q xs
unfolding any
any_on P p q h [] a = refl
any_on P p q h (x ∷ xs) a = rw (h x a.0, any_on P p q h xs a.1)
