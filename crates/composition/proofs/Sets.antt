-- What is in a union of sets, and tests over the numbers below n: laws of sets of small numbers. Assumes nothing.
use mathlib.Core.Path.{◌≡◌, refl, sym, ap, ◌∙◌}
use mathlib.Core.Bool.{Bool, true, false, ◌&&◌, ◌||◌, or-true, false≢true}
use mathlib.Core.Logic.{⊎_elim}
use mathlib.Core.List.{List, [], ◌∷◌}
use Prim.Native.Nat.{ℕ, zero, suc, ◌/◌, ◌%◌, ◌^◌, ◌<◌}
use native.Mathlib.Nat.{zero-div, div-one, div-div-eq-div-mul, div-add-mod', mod-lt, pow-succ', div-lt_iff_lt-mul, pow-suc, eq-or-lt_of_le, le_of_suc-le-suc, div-eq_of_lt, mul-mod_left, mul-div_cancel}
use native.Mathlib.Omega.{arith}
use lib.Dec.{eqb, lit<, eqb-suc-suc, eqb-zero-suc, eqb-suc-zero}
use lib.Bits.{bit_or, bit_and, or_shr, or_mod, or_lt, and_shr, and_mod}
use lib.Pow.{pow_pos}
use Rattle.words.specs.Words.{in_set}
use Rattle.words.specs.Lists.{any, all}
use Rattle.composition.specs.Sets.{down, unions, given, chosen}

-- ---- what is in them

digit_or : (m n : ℕ) → m < 2 → n < 2 → eqb (bit_or m n) 1 ≡ (eqb m 1 || eqb n 1)
digit_or zero n h l = refl
digit_or (suc zero) zero h l = refl
digit_or (suc zero) (suc zero) h l = refl
digit_or (suc zero) (suc (suc n)) h l = absurd (omega arith)
digit_or (suc (suc m)) n h l = absurd (omega arith)

pub in_or : (a b k : ℕ) → in_set (bit_or a b) k ≡ (in_set a k || in_set b k)
unfolding in_set
in_or a b k =
    ap (λ (x : ℕ). eqb (x % 2) 1) (or_shr a b k) ∙ ap (λ (x : ℕ). eqb x 1) (or_mod (a / 2 ^ k) (b / 2 ^ k) 1)
    ∙ digit_or (a / 2 ^ k % 2) (b / 2 ^ k % 2) (mod-lt _ (lit< tt)) (mod-lt _ (lit< tt))

digit_and : (m n : ℕ) → m < 2 → n < 2 → eqb (bit_and m n) 1 ≡ (eqb m 1 && eqb n 1)
digit_and zero n h l = refl
digit_and (suc zero) zero h l = refl
digit_and (suc zero) (suc zero) h l = refl
digit_and (suc zero) (suc (suc n)) h l = absurd (omega arith)
digit_and (suc (suc m)) n h l = absurd (omega arith)

pub in_and : (a b k : ℕ) → in_set (bit_and a b) k ≡ (in_set a k && in_set b k)
unfolding in_set
in_and a b k =
    ap (λ (x : ℕ). eqb (x % 2) 1) (and_shr a b k) ∙ ap (λ (x : ℕ). eqb x 1) (and_mod (a / 2 ^ k) (b / 2 ^ k) 1)
    ∙ digit_and (a / 2 ^ k % 2) (b / 2 ^ k % 2) (mod-lt _ (lit< tt)) (mod-lt _ (lit< tt))

pub in_none : (k : ℕ) → in_set 0 k ≡ false
unfolding in_set
in_none k = rw (zero-div (2 ^ k))

pub in_unions : (f : ℕ → ℕ) (xs : List ℕ) (k : ℕ) → in_set (unions f xs) k ≡ any (λ i. in_set (f i) k) xs
unfolding unions any
in_unions f [] k = in_none k
in_unions f (x ∷ xs) k = in_or (f x) (unions f xs) k ∙ ap (λ (b : Bool). in_set (f x) k || b) (in_unions f xs k)

pub in_given : (test : Bool) (s k : ℕ) → in_set (given test s) k ≡ (test && in_set s k)
in_given true s k = refl
in_given false s k = in_none k

pub given_below : (n : ℕ) (test : Bool) (s : ℕ) → s < 2 ^ n → given test s < 2 ^ n
given_below n true s h = h
given_below n false s h = pow_pos n

pub chosen_below : (m s : ℕ) (f : ℕ → ℕ) (n : ℕ) → ((i : ℕ) → i < n → f i < 2 ^ m) → chosen s f n < 2 ^ m
unfolding chosen unions down
chosen_below m s f zero h = pow_pos m
chosen_below m s f (suc n) h =
    or_lt m (given (in_set s n) (f n)) (chosen s f n) (given_below m (in_set s n) (f n) (h n (omega arith))) (chosen_below m s f n (λ i l. h i (omega arith)))

-- ---- two sets with the same numbers in them are the same

shifted : (a k : ℕ) → in_set (a / 2) k ≡ in_set a (suc k)
unfolding in_set
shifted a k = ap (λ (x : ℕ). eqb (x % 2) 1) (div-div-eq-div-mul a 2 (2 ^ k) ∙ ap (λ (x : ℕ). a / x) (sym (pow-succ' 2 k)))

one_below : (r : ℕ) → 1 < 2 ^ suc r
one_below r = let h = pow_pos r in rw (pow-suc 2 r) (omega arith)

-- the set of k alone
pub in_bit : (k r : ℕ) → in_set (2 ^ k) r ≡ eqb k r
unfolding in_set
in_bit zero zero = refl
in_bit zero (suc r) = rw (div-eq_of_lt (one_below r)) (sym (eqb-zero-suc r))
in_bit (suc k) zero = rw (div-one (2 ^ suc k), pow-suc 2 k, mul-mod_left (2 ^ k) 2) (sym (eqb-suc-zero k))
in_bit (suc k) (suc r) =
    sym (shifted (2 ^ suc k) r) ∙ ap (λ (x : ℕ). in_set x r) (ap (λ (x : ℕ). x / 2) (pow-suc 2 k) ∙ mul-div_cancel (2 ^ k) (lit< tt)) ∙ in_bit k r
    ∙ sym (eqb-suc-suc k r)

same_digit : (m n : ℕ) → m < 2 → n < 2 → eqb m 1 ≡ eqb n 1 → m ≡ n
same_digit zero zero h l e = refl
same_digit zero (suc zero) h l e = absurd (false≢true e)
same_digit zero (suc (suc n)) h l e = absurd (omega arith)
same_digit (suc zero) zero h l e = absurd (false≢true (sym e))
same_digit (suc zero) (suc zero) h l e = refl
same_digit (suc zero) (suc (suc n)) h l e = absurd (omega arith)
same_digit (suc (suc m)) n h l e = absurd (omega arith)

pub same_set : (n a b : ℕ) → a < 2 ^ n → b < 2 ^ n → ((k : ℕ) → k < n → in_set a k ≡ in_set b k) → a ≡ b
unfolding in_set
same_set zero a b h l e = omega arith
same_set (suc n) a b h l e =
    let halves : a / 2 ≡ b / 2 = same_set n (a / 2) (b / 2)
    ((div-lt_iff_lt-mul (lit< tt)).1 (rw pow-suc at h)) ((div-lt_iff_lt-mul (lit< tt)).1 (rw pow-suc at l))
    (λ k i. shifted a k ∙ e (suc k) (omega arith) ∙ sym (shifted b k)) in
    let odd : a % 2 ≡ b % 2 = same_digit (a % 2) (b % 2) (mod-lt a (lit< tt)) (mod-lt b (lit< tt))
    (rw (div-one a, div-one b) at (e 0 (omega arith))) in
    sym (div-add-mod' a 2) ∙ rw (halves, odd) (div-add-mod' b 2)

-- ---- tests over the numbers below n

pub both : (a b : Bool) → (a && b) ≡ true → (a ≡ true) × (b ≡ true)
both true b h = (refl, h)
both false b h = absurd (false≢true h)

pub and_both : {a b : Bool} → a ≡ true → b ≡ true → (a && b) ≡ true
and_both h l = rw (h, l)

pub iff_same : (a b : Bool) → (a ≡ true → b ≡ true) → (b ≡ true → a ≡ true) → a ≡ b
iff_same true b f g = sym (f refl)
iff_same false true f g = g refl
iff_same false false f g = refl

pub record Found (n : ℕ) (p : ℕ → Bool) : Type 0 where
  pub at : ℕ
  pub below : at < n
  pub holds : p at ≡ true

here : (n : ℕ) (p : ℕ → Bool) (b : Bool) → p n ≡ b → (b || any p (down n)) ≡ true → (any p (down n) ≡ true → Found n p) → Found (suc n) p
here n p true e t more = record { at = n; below = omega arith; holds = e }
here n p false e t more = let f = more t in let l = f.below in record { at = f.at; below = omega arith; holds = f.holds }

pub any_found : (n : ℕ) (p : ℕ → Bool) → any p (down n) ≡ true → Found n p
unfolding any down
any_found zero p h = absurd (false≢true h)
any_found (suc n) p h = here n p (p n) refl h (λ t. any_found n p t)

pub found-any : (n : ℕ) (p : ℕ → Bool) (i : ℕ) → i < n → p i ≡ true → any p (down n) ≡ true
unfolding any down
found-any zero p i h e = absurd (omega arith)
found-any (suc n) p i h e =
    ⊎_elim (λ q. rw (← q, e)) (λ l. rw (found-any n p i l e) (or-true (p n))) (eq-or-lt_of_le (le_of_suc-le-suc h))

-- what every number below n passes
pub all-at : (n : ℕ) (p : ℕ → Bool) → all p (down n) ≡ true → (i : ℕ) → i < n → p i ≡ true
unfolding all down
all-at zero p h i l = absurd (omega arith)
all-at (suc n) p h i l =
    ⊎_elim (λ q. rw q (both (p n) _ h).0) (λ l. all-at n p (both (p n) _ h).1 i l) (eq-or-lt_of_le (le_of_suc-le-suc l))

pub all_each : (n : ℕ) (p : ℕ → Bool) → ((i : ℕ) → i < n → p i ≡ true) → all p (down n) ≡ true
unfolding all down
all_each zero p h = refl
all_each (suc n) p h = and_both (h n (omega arith)) (all_each n p (λ i l. h i (omega arith)))

-- every two, and every three
pub all_at_2 : (n : ℕ) (f : ℕ → ℕ → Bool) → all (λ p. all (f p) (down n)) (down n) ≡ true → (p q : ℕ) → p < n → q < n → f p q ≡ true
all_at_2 n f t p q h l = all-at n (f p) (all-at n (λ p. all (f p) (down n)) t p h) q l

pub all_at_3 : (n : ℕ) (f : ℕ → ℕ → ℕ → Bool) → all (λ p. all (λ q. all (f p q) (down n)) (down n)) (down n) ≡ true
    → (p q w : ℕ) → p < n → q < n → w < n → f p q w ≡ true
all_at_3 n f t p q w h l m = all-at n (f p q) (all_at_2 n (λ p q. all (f p q) (down n)) t p q h l) w m
