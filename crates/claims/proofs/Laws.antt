-- Laws that the claims share: what holds of each element of a list, the first and the least that pass a test, answers in their order. Assumes
-- nothing.
use mathlib.Core.Path.{◌≡◌, refl, sym, ◌∙◌, subst}
use mathlib.Core.Bool.{Bool, true, false, cond}
use mathlib.Core.Logic.{◌↔◌}
use mathlib.Core.List.{List, [], ◌∷◌, ◌++◌, map, flat_map}
use Prim.Native.Nat.{ℕ, zero, suc, ◌+◌, ◌*◌, ◌≤◌, ◌<◌}
use native.Mathlib.Nat.{zero-mul, suc-mul, add-mul, mul_comm}
use native.Mathlib.Omega.{arith}
use lib.Dec.{eqb}
use lib.ListN.{length}
use borrow.Author.Tests.{eqb-true}
use Rattle.answers.specs.declared.Numbers.{Numbers}
use Rattle.answers.specs.Numbers.{or_else}
use Rattle.words.specs.Lists.{any, All}
use Rattle.words.specs.Least.{first, Clear, least}
use Rattle.words.proofs.Least.{first-none, first_some, least_law, least-is}
use Rattle.words.specs.Runs.{run}
use Rattle.layout.proofs.Tests.{or_right}

-- ---- what holds of each element

-- a fact of each element that follows from another
pub all-to : {A : Type 0} (P Q : A → Type 0) → ((x : A) → P x → Q x) → (xs : List A) → All P xs → All Q xs
all-to P Q h [] a = tt
all-to P Q h (x ∷ xs) a = (h x a.0, all-to P Q h xs a.1)

-- of two lists, one behind the other
pub all_both : {A : Type 0} (P : A → Type 0) (xs ys : List A) → All P xs → All P ys → All P (xs ++ ys)
all_both P [] ys h k = k
all_both P (x ∷ xs) ys h k = (h.0, all_both P xs ys h.1 k)

-- a fact of everything
pub all_each : {A : Type 0} (P : A → Type 0) → ((x : A) → P x) → (xs : List A) → All P xs
all_each P h [] = tt
all_each P h (x ∷ xs) = (h x, all_each P h xs)

-- a step for each element
pub all_apply : {A : Type 0} (P Q : A → Type 0) (xs : List A) → All (λ x. P x → Q x) xs → All P xs → All Q xs
all_apply P Q [] f h = tt
all_apply P Q (x ∷ xs) f h = (f.0 h.0, all_apply P Q xs f.1 h.1)

-- of what is made from each element
pub all_map : {A B : Type 0} (Q : B → Type 0) (f : A → B) → ((x : A) → Q (f x)) → (xs : List A) → All Q (map f xs)
all_map Q f h [] = tt
all_map Q f h (x ∷ xs) = (h x, all_map Q f h xs)

-- of the lists that are made from each element, one behind another
pub all_flat : {A B : Type 0} (P : A → Type 0) (Q : B → Type 0) (f : A → List B) → ((x : A) → P x → All Q (f x)) → (xs : List A) → All P xs → All Q (flat_map f xs)
unfolding flat_map
all_flat P Q f h [] a = tt
all_flat P Q f h (x ∷ xs) a = all_both Q (f x) (flat_map f xs) (h x a.0) (all_flat P Q f h xs a.1)

-- ---- what holds of each record of a run

-- record k of a run stands k records further
pub run-all : {A : Type 0} (P : A → Type 0) (f : ℕ → A) (w n at : ℕ) → All P (run f w n at) ↔ ((k : ℕ) → k < n → P (f (at + k * w)))
unfolding run
run-all P f w zero at = (λ h k l. absurd (omega arith), λ h. tt)
run-all P f w (suc n) at =
    let ih = run-all P f w n (at + w) in
    let here : at ≡ at + 0 * w = omega (arith, zero-mul w) in
    let next : (k : ℕ) → at + w + k * w ≡ at + suc k * w = λ k. omega (arith, suc-mul k w) in (
      λ h. elim [ zero ↦ λ l. subst (λ x. P (f x)) here h.0 | suc k ↦ λ l. subst (λ x. P (f x)) (next k) (ih.0 h.1 k (omega arith)) ],
      λ h. (subst (λ x. P (f x)) (sym here) (h 0 (omega arith)), ih.1 (λ k l. subst (λ x. P (f x)) (sym (next k)) (h (suc k) (omega arith)))),
    )

-- the same where the records are numbered from the place `off`, and the run begins at number x
pub run-records : {A : Type 0} (P : A → Type 0) (f : ℕ → A) (w n off x : ℕ)
    → All P (run f w n (off + w * x)) ↔ ((k : ℕ) → k < n → P (f (off + (x + k) * w)))
run-records P f w n off x =
    let r = run-all P f w n (off + w * x) in
    let at : (k : ℕ) → off + w * x + k * w ≡ off + (x + k) * w = λ k. omega (arith, add-mul x k w, mul_comm w x) in (
      λ h k l. subst (λ y. P (f y)) (at k) (r.0 h k l),
      λ h. r.1 (λ k l. subst (λ y. P (f y)) (sym (at k)) (h k l)),
    )

-- ---- no element passes a test

module _ {A : Type 0} (p : A → Bool) (P : A → Type 0) (iff : (x : A) → (p x ≡ false) ↔ P x) where
  -- none passes: each has the fact that says so
  pub none_any : (xs : List A) → (any p xs ≡ false) ↔ All P xs
  unfolding any
  none_any [] = (λ h. tt, λ h. refl)
  none_any (x ∷ xs) =
      let ih = none_any xs in
      let o = or_right (p x) (any p xs) in
      (λ h. ((iff x).0 (o.0 h).0, ih.0 (o.0 h).1), λ h. o.1 ((iff x).1 h.0, ih.1 h.1))

  -- the first that passes is past the end
  pub none_first : (xs : List A) → (length xs ≤ first p xs) ↔ All P xs
  none_first xs = (λ h. (none_any xs).0 (by (any p xs) refl h), λ h. omega (arith, first-none p xs ((none_any xs).1 h)))
    where
      by : (t : Bool) → any p xs ≡ t → length xs ≤ first p xs → any p xs ≡ false
      by true e h = absurd (omega (arith, first_some p xs e))
      by false e h = e

-- ---- the first, and the least

-- the first of what is made from each element
pub first-map : {A B : Type 0} (p : B → Bool) (f : A → B) (xs : List A) → first p (map f xs) ≡ first (λ x. p (f x)) xs
unfolding first
first-map p f [] = refl
first-map p f (x ∷ xs) = rw (first-map p f xs)

-- tests that agree where P holds have the same first
pub first_on : {A : Type 0} (P : A → Type 0) (p q : A → Bool) → ((x : A) → P x → p x ≡ q x) → (xs : List A) → All P xs → first p xs ≡ first q xs
unfolding first
first_on P p q h [] a = refl
first_on P p q h (x ∷ xs) a = rw (h x a.0, first_on P p q h xs a.1)

-- two tests agree at each number where the first holds of none before: they have the same least
pub least_agree : (n : ℕ) (p q : ℕ → Bool) → ((k : ℕ) → k < n → Clear p k → p k ≡ q k) → least n p ≡ least n q
least_agree n p q h =
    let l = least_law n p in
    let w = l.within in
    least-is (record {
      within = w;
      clear = λ k m. sym (h k (omega arith) (λ i r. l.clear i (omega arith))) ∙ l.clear k m;
      here = λ m. sym (h _ m l.clear) ∙ l.here m;
    })

-- ---- answers in their order

-- two answers that agree where no fault comes before them
pub else_agree : (x y z : Numbers) → (x.number ≡ 0 → y ≡ z) → or_else x y ≡ or_else x z
unfolding or_else
else_agree x y z h = by (eqb x.number 0) refl
  where
    by : (t : Bool) → eqb x.number 0 ≡ t → cond t y x ≡ cond t z x
    by true e = h (eqb-true _ _ e)
    by false e = refl
