-- Composition on sets: "equals" is neutral, the converse of a composition is the composition of converses in the other order, and
-- composition is associative. Each is a test of single relations, computed over the table, and holds of sets since what is in a
-- composition is in that of two single relations. Assumes nothing.
use mathlib.Core.Path.{◌≡◌, refl, sym, ap, ◌∙◌}
use mathlib.Core.Bool.{true, ◌&&◌}
use Prim.Native.Nat.{ℕ, ◌-◌, ◌^◌, ◌≤◌, ◌<◌}
use native.Mathlib.Nat.{pow-le-pow_right}
use native.Mathlib.Omega.{arith}
use lib.Dec.{ltb, eqb, lit<}
use borrow.Author.Tests.{eqb-true, eq-eqb, ltb-true}
use Rattle.words.specs.Words.{in_set}
use Rattle.words.specs.Lists.{all}
use Rattle.composition.specs.Sets.{down, unions, given, chosen}
use Rattle.composition.proofs.Sets.{in_unions, in_given, in_bit, any_found, found-any, all-at, all_at_2, all_at_3, both, and_both, iff_same, same_set, chosen_below}
use Rattle.composition.specs.Table.{pair_set, row_set, compose_sets, converse_set}

abbrev In : ℕ → ℕ → Type 0
In s k = in_set s k ≡ true

-- ---- what is in a chosen union

pub record Choice (s : ℕ) (f : ℕ → ℕ) (n r : ℕ) : Type 0 where
  pub i : ℕ
  pub below : i < n
  pub in_s : In s i
  pub in_f : In (f i) r

pub from-chosen : (s : ℕ) (f : ℕ → ℕ) (n r : ℕ) → In (chosen s f n) r → Choice s f n r
unfolding chosen
from-chosen s f n r h =
    let a = any_found n _ (sym (in_unions (λ i. given (in_set s i) (f i)) (down n) r) ∙ h) in
    let b = both _ _ (sym (in_given (in_set s a.at) (f a.at) r) ∙ a.holds) in
    record { i = a.at; below = a.below; in_s = b.0; in_f = b.1 }

pub to-chosen : (s : ℕ) (f : ℕ → ℕ) (n r i : ℕ) → i < n → In s i → In (f i) r → In (chosen s f n) r
unfolding chosen
to-chosen s f n r i l h k =
    in_unions (λ i. given (in_set s i) (f i)) (down n) r ∙ found-any n _ i l (in_given (in_set s i) (f i) r ∙ and_both h k)

-- ---- what is in a composition

pub record Composed (s t r : ℕ) : Type 0 where
  pub p : ℕ
  pub q : ℕ
  pub left : p < 13
  pub right : q < 13
  pub in_s : In s p
  pub in_t : In t q
  pub across : In (pair_set p q) r

pub from_compose : (s t r : ℕ) → In (compose_sets s t) r → Composed s t r
unfolding compose_sets row_set
from_compose s t r h =
    let a = from-chosen s _ 13 r h in
    let b = from-chosen t _ 13 r a.in_f in
    record { p = a.i; q = b.i; left = a.below; right = b.below; in_s = a.in_s; in_t = b.in_s; across = b.in_f }

pub to_compose : (s t r p q : ℕ) → p < 13 → q < 13 → In s p → In t q → In (pair_set p q) r → In (compose_sets s t) r
unfolding compose_sets row_set
to_compose s t r p q l m h k a = to-chosen s _ 13 r p l h (to-chosen t _ 13 r q m k a)

-- composition of smaller sets is smaller
pub compose_mono : (s s' t t' : ℕ) → ((r : ℕ) → In s r → In s' r) → ((r : ℕ) → In t r → In t' r) → (r : ℕ) → In (compose_sets s t) r → In (compose_sets s' t') r
compose_mono s s' t t' f g r h =
    let c = from_compose s t r h in
    to_compose s' t' r c.p c.q c.left c.right (f _ c.in_s) (g _ c.in_t) c.across

-- two sets of relations that have the same in them
pub same : (a b : ℕ) → a < 2 ^ 13 → b < 2 ^ 13 → ((k : ℕ) → k < 13 → In a k → In b k) → ((k : ℕ) → k < 13 → In b k → In a k) → a ≡ b
same a b h l f g = same_set 13 a b h l (λ k i. iff_same _ _ (f k i) (g k i))

-- ---- the tests, computed over the table

small : all (λ p. all (λ q. ltb (pair_set p q) (2 ^ 13)) (down 13)) (down 13) ≡ true
unfolding pair_set down all
small = refl

neutral : all (λ p. eqb (pair_set 6 p) (2 ^ p) && eqb (pair_set p 6) (2 ^ p)) (down 13) ≡ true
unfolding pair_set down all
neutral = refl

turned : all (λ p. all (λ q. eqb (converse_set (pair_set p q)) (pair_set (12 - q) (12 - p))) (down 13)) (down 13) ≡ true
unfolding converse_set chosen unions in_set pair_set down all
turned = refl

regrouped : all (λ p. all (λ q. all (λ w. eqb (chosen (pair_set p q) (λ x. pair_set x w) 13) (row_set p (pair_set q w))) (down 13)) (down 13)) (down 13) ≡ true
unfolding row_set chosen unions in_set pair_set down all
regrouped = refl

-- ---- a composition is a set of relations

compose_below : (s t : ℕ) → compose_sets s t < 2 ^ 13
unfolding compose_sets row_set
compose_below s t =
    chosen_below 13 s _ 13
    (λ p l. chosen_below 13 t _ 13 (λ q m. ltb-true _ _ (all_at_2 13 (λ p q. ltb (pair_set p q) (2 ^ 13)) small p q l m)))

converse_below : (s : ℕ) → converse_set s < 2 ^ 13
unfolding converse_set
converse_below s = chosen_below 13 s _ 13 (λ k l. let h : 2 ^ (12 - k) ≤ 2 ^ 12 = pow-le-pow_right (lit< tt) {j = 12} (omega arith) in omega arith)

-- ---- "equals" is neutral

bit_is : (k r : ℕ) → In (2 ^ k) r → k ≡ r
bit_is k r h = eqb-true k r (sym (in_bit k r) ∙ h)

bit_in : (k : ℕ) → In (2 ^ k) k
bit_in k = in_bit k k ∙ eq-eqb k k refl

pair_left : (q : ℕ) → q < 13 → pair_set 6 q ≡ 2 ^ q
pair_left q l = eqb-true _ _ (both _ _ (all-at 13 (λ p. eqb (pair_set 6 p) (2 ^ p) && eqb (pair_set p 6) (2 ^ p)) neutral q l)).0

pair_right : (p : ℕ) → p < 13 → pair_set p 6 ≡ 2 ^ p
pair_right p l = eqb-true _ _ (both (eqb (pair_set 6 p) (2 ^ p)) _ (all-at 13 (λ p. eqb (pair_set 6 p) (2 ^ p) && eqb (pair_set p 6) (2 ^ p)) neutral p l)).1

pub equals_left : (t : ℕ) → t < 2 ^ 13 → compose_sets 64 t ≡ t
equals_left t h =
    same _ t (compose_below 64 t) h
    (λ k l i. let c = from_compose 64 t k i in
    let six : 6 ≡ c.p = bit_is 6 c.p c.in_s in
    let q : c.q ≡ k = bit_is c.q k (rw (← pair_left c.q c.right) (rw (← six) at c.across)) in
    rw (← q) c.in_t)
    (λ k l i. to_compose 64 t k 6 k (lit< tt) l (bit_in 6) i (rw (pair_left k l) (bit_in k)))

pub equals_right : (s : ℕ) → s < 2 ^ 13 → compose_sets s 64 ≡ s
equals_right s h =
    same _ s (compose_below s 64) h
    (λ k l i. let c = from_compose s 64 k i in
    let six : 6 ≡ c.q = bit_is 6 c.q c.in_t in
    let p : c.p ≡ k = bit_is c.p k (rw (← pair_right c.p c.left) (rw (← six) at c.across)) in
    rw (← p) c.in_s)
    (λ k l i. to_compose s 64 k k 6 l (lit< tt) i (bit_in 6) (rw (pair_right k l) (bit_in k)))

-- ---- composition is associative

group : (p q w : ℕ) → p < 13 → q < 13 → w < 13 → chosen (pair_set p q) (λ x. pair_set x w) 13 ≡ row_set p (pair_set q w)
group p q w h l m = eqb-true _ _ (all_at_3 13 (λ p q w. eqb (chosen (pair_set p q) (λ x. pair_set x w) 13) (row_set p (pair_set q w))) regrouped p q w h l m)

pub compose_assoc : (s t u : ℕ) → compose_sets (compose_sets s t) u ≡ compose_sets s (compose_sets t u)
unfolding row_set
compose_assoc s t u =
    same _ _ (compose_below _ u) (compose_below s _)
    (λ k l i. let a = from_compose (compose_sets s t) u k i in
    let b = from_compose s t a.p a.in_s in
    let there = to-chosen (pair_set b.p b.q) (λ x. pair_set x a.q) 13 k a.p a.left b.across a.across in
    let y = from-chosen (pair_set b.q a.q) (λ y. pair_set b.p y) 13 k (rw (group b.p b.q a.q b.left b.right a.right) at there) in
    to_compose s _ k b.p y.i b.left y.below b.in_s (to_compose t u y.i b.q a.q b.right a.right b.in_t a.in_t y.in_s) y.in_f)
    (λ k l i. let a = from_compose s (compose_sets t u) k i in
    let b = from_compose t u a.q a.in_t in
    let there = to-chosen (pair_set b.p b.q) (λ y. pair_set a.p y) 13 k a.q a.right b.across a.across in
    let x = from-chosen (pair_set a.p b.p) (λ x. pair_set x b.q) 13 k (rw (group a.p b.p b.q a.left b.left b.right) there) in
    to_compose _ u k x.i b.q x.below b.right (to_compose s t x.i a.p b.p a.left b.left a.in_s b.in_s x.in_s) b.in_t x.in_f)

-- ---- the converse of a composition

from-converse : (s k : ℕ) → k < 13 → In (converse_set s) k → In s (12 - k)
unfolding converse_set
from-converse s k l h =
    let c = from-chosen s _ 13 k h in
    let b = c.below in
    let e : 12 - c.i ≡ k = bit_is (12 - c.i) k c.in_f in
    let d : 12 - k ≡ c.i = omega arith in
    rw d c.in_s

pub to-converse : (s k : ℕ) → k < 13 → In s (12 - k) → In (converse_set s) k
unfolding converse_set
to-converse s k l h =
    let e : 12 - (12 - k) ≡ k = omega arith in
    to-chosen s _ 13 k (12 - k) (omega arith) h (ap (λ (n : ℕ). in_set (2 ^ n) k) e ∙ bit_in k)

turn : (p q : ℕ) → p < 13 → q < 13 → converse_set (pair_set p q) ≡ pair_set (12 - q) (12 - p)
turn p q h l = eqb-true _ _ (all_at_2 13 (λ p q. eqb (converse_set (pair_set p q)) (pair_set (12 - q) (12 - p))) turned p q h l)

pub converse_compose : (s t : ℕ) → converse_set (compose_sets s t) ≡ compose_sets (converse_set t) (converse_set s)
converse_compose s t =
    same _ _ (converse_below _) (compose_below _ _)
    (λ k l i. let c = from_compose s t (12 - k) (from-converse _ k l i) in
    let left = c.left in
    let right = c.right in
    let p : 12 - (12 - c.p) ≡ c.p = omega arith in
    let q : 12 - (12 - c.q) ≡ c.q = omega arith in
    to_compose _ _ k (12 - c.q) (12 - c.p) (omega arith) (omega arith) (to-converse t _ (omega arith) (rw q c.in_t))
    (to-converse s _ (omega arith) (rw p c.in_s))
    (rw (← turn c.p c.q left right) (to-converse _ k l c.across)))
    (λ k l i. let c = from_compose (converse_set t) (converse_set s) k i in
    let left = c.left in
    let right = c.right in
    let e : 12 - (12 - k) ≡ k = omega arith in
    to-converse _ k l
    (to_compose s t (12 - k) (12 - c.q) (12 - c.p) (omega arith) (omega arith) (from-converse s c.q right c.in_t) (from-converse t c.p left c.in_s)
    (rw (← turn c.p c.q left right) (to-converse _ (12 - k) (omega arith) (rw e c.across)))))
