-- The relation from three-way orders. Once the orders of four pairs of ends are known, so are the twelve tests of which the thirteen
-- conditions are made, and the first condition that holds is computed. Assumes nothing.
use mathlib.Core.Path.{◌≡◌, refl, ap, ◌∙◌}
use mathlib.Core.Bool.{Bool, true, false, ◌&&◌, ◌||◌, cond}
use mathlib.Core.List.{List, [], ◌∷◌}
use Prim.Native.Nat.{ℕ, ◌+◌, ◌-◌, ◌*◌, ◌<◌, ◌≤◌}
use native.Mathlib.Omega.{arith}
use lib.Dec.{ltb, eqb}
use borrow.Author.Tests.{ltb-true, ltb-false, eqb-true, eqb-false, lt-ltb, le-ltb, ne_eqb}
use Rattle.std.specs.declared.cmp.Ordering.{Ordering}
use Rattle.std.specs.declared.cmp.Ordering.TheVariants.{Less, Equal, Greater}
use Rattle.std.specs.Ordering.{nat_cmp}
use Rattle.words.specs.Least.{first}
use Rattle.allen.specs.Relation.{relation_of}
use Rattle.allen.specs.Order.{order_of, Across}

-- what an order says of a < b, a = b and b < a
data Three : ℕ → Bool → Bool → Bool → Type 0 where
  less : Three 0 true false false
  same : Three 1 false true false
  more : Three 2 false false true

three : (a b : ℕ) → Three (order_of a b) (ltb a b) (eqb a b) (ltb b a)
unfolding order_of
three a b = by (ltb a b) (eqb a b) refl refl
  where
    by : (l q : Bool) → ltb a b ≡ l → eqb a b ≡ q → Three (order_of a b) (ltb a b) (eqb a b) (ltb b a)
    by true q h k = rw (h, ne_eqb a b (omega (arith, ltb-true a b h)), le-ltb b a (omega (arith, ltb-true a b h))) less
    by false true h k = rw (h, k, le-ltb b a (omega (arith, eqb-true a b k))) same
    by false false h k = rw (h, k, lt-ltb b a (omega (arith, ltb-false a b h, eqb-false a b k))) more

-- the number of what a comparison says
abbrev rank : Ordering → ℕ
rank Less = 0
rank Equal = 1
rank Greater = 2

pub order-is : (a b : ℕ) (o : Ordering) → o ≡ nat_cmp a b → rank o ≡ order_of a b
unfolding order_of
order-is a b o h = ap rank h ∙ by (ltb a b) (eqb a b)
  where
    by : (l q : Bool) → rank (cond l Less (cond q Equal Greater)) ≡ cond l 0 (cond q 1 2)
    by true q = refl
    by false true = refl
    by false false = refl

abbrev it : Bool → Bool
it holds = holds

-- n: left's end and right's start. Left ends before right starts, or where it starts
near : {n : ℕ} {n₁ n₂ n₃ : Bool} → Three n n₁ n₂ n₃ → (n ≡ 2 → ⊥) → (rest : List Bool) → n ≡ first it (n₁ ∷ n₂ ∷ rest)
unfolding first
near less h rest = refl
near same h rest = refl
near more h rest = absurd (h refl)

-- after that: by the starts s and the ends e, where left isn't the later in both
crossing : {s e : ℕ} {s₁ s₂ s₃ e₁ e₂ e₃ : Bool} → Three s s₁ s₂ s₃ → Three e e₁ e₂ e₃ → (s + e ≡ 4 → ⊥) → (rest : List Bool)
    → 2 + 3 * s + e
    ≡ first it (false ∷ false ∷ (s₁ && (true && e₁)) ∷ (s₁ && e₂) ∷ (s₁ && e₃) ∷ (s₂ && e₁) ∷ (s₂ && e₂) ∷ (s₂ && e₃) ∷ (s₃ && e₁) ∷ (s₃ && e₂) ∷ rest)
unfolding first
crossing less less h rest = refl
crossing less same h rest = refl
crossing less more h rest = refl
crossing same less h rest = refl
crossing same same h rest = refl
crossing same more h rest = refl
crossing more less h rest = refl
crossing more same h rest = refl
crossing more more h rest = absurd (h refl)

-- where it is: by right's end and left's start, f
behind : {f : ℕ} {f₁ f₂ f₃ : Bool} → Three f f₁ f₂ f₃
    → 12 - f
    ≡ first it (false ∷ false ∷ false ∷ false ∷ false ∷ false ∷ false ∷ false ∷ false ∷ false ∷ (true && (f₃ && true)) ∷ f₂ ∷ f₁ ∷ [])
unfolding first
behind less = refl
behind same = refl
behind more = refl

-- the greater, and not the less
pub order_more : (a b : ℕ) → order_of a b ≡ 2 → b < a
order_more a b h = by (three a b) h refl
  where
    by : {o : ℕ} {l q m : Bool} → Three o l q m → o ≡ 2 → ltb b a ≡ m → b < a
    by less h k = absurd (omega arith)
    by same h k = absurd (omega arith)
    by more h k = ltb-true b a k

pub order_less : (a b : ℕ) → a < b → order_of a b ≡ 0
unfolding order_of
order_less a b h = rw (lt-ltb a b h)

module _ (s e s' e' : ℕ) where
  -- the answer is the order of left's end and right's start
  pub near_is : (n : ℕ) → n ≡ order_of e s' → (n ≡ 2 → ⊥) → n ≡ relation_of s e s' e'
  unfolding relation_of
  near_is n h k = h ∙ near (three e s') (λ q. k (h ∙ q)) _

  -- the answers 2 to 9
  crossing_is : (x y : ℕ) → x ≡ order_of s s' → y ≡ order_of e e' → (x + y ≡ 4 → ⊥) → s' < e → 2 + 3 * x + y ≡ relation_of s e s' e'
  unfolding relation_of
  crossing_is x y hx hy k l =
      rw (hx, hy, le-ltb e s' (omega arith), ne_eqb e s' (omega arith), lt-ltb s' e l) (crossing (three s s') (three e e') (λ q. k (rw (hx, hy) q)) _)

  -- 10 to 12
  behind-is : (f : ℕ) → f ≡ order_of e' s → s' < s → e' < e → s' < e → 12 - f ≡ relation_of s e s' e'
  unfolding relation_of
  behind-is f h a b l =
      rw (h, le-ltb e s' (omega arith), ne_eqb e s' (omega arith), le-ltb s s' (omega arith), ne_eqb s s' (omega arith), lt-ltb s' s a, le-ltb e e' (omega arith), ne_eqb e e' (omega arith), lt-ltb e' e b)
      (behind (three e' s))

  -- what `across` finds: left is the later in both, and not
  pub across-behind : (x y f : ℕ) → x ≡ order_of s s' → y ≡ order_of e e' → f ≡ order_of e' s → x ≤ 2 → y ≤ 2 → f ≤ 2 → x + y ≡ 4 → Across s e s' e' (12 - f)
  across-behind x y f hx hy hf lx ly lf k =
      let a : s' < s = order_more s s' (omega arith) in
      let b : e' < e = order_more e e' (omega arith) in
      record { is = λ l. behind-is f hf a b l; sure = λ t. sure a b (some (12 - f) t) }
    where
      some : (r : ℕ) → (eqb r 10 || eqb r 11) ≡ true → r < 12
      some r t = by (eqb r 10) (eqb r 11) refl refl t
        where
          by : (a b : Bool) → eqb r 10 ≡ a → eqb r 11 ≡ b → (a || b) ≡ true → r < 12
          by true b h k t = omega (arith, eqb-true r 10 h)
          by false true h k t = omega (arith, eqb-true r 11 k)
          by false false h k t = absurd (let z : ◌≡◌ {A = ℕ} 0 1 = cc in omega arith)

      sure : s' < s → e' < e → 12 - f < 12 → s' < e
      sure a b l = let q : s ≤ e' = not-before (ltb e' s) refl in omega arith
        where
          not-before : (t : Bool) → ltb e' s ≡ t → s ≤ e'
          not-before true h = absurd (omega (arith, order_less e' s (ltb-true e' s h)))
          not-before false h = ltb-false e' s h

  pub across_crossing : (x y : ℕ) → x ≡ order_of s s' → y ≡ order_of e e' → x ≤ 2 → y ≤ 2 → (x + y ≡ 4 → ⊥) → Across s e s' e' (2 + 3 * x + y)
  across_crossing x y hx hy lx ly k = record { is = λ l. crossing_is x y hx hy k l; sure = λ t. absurd (none t) }
    where
      none : (eqb (2 + 3 * x + y) 10 || eqb (2 + 3 * x + y) 11) ≡ true → ⊥
      none t = let z : ◌≡◌ {A = ℕ} 0 1 = cc (ne_eqb (2 + 3 * x + y) 10 (omega arith), ne_eqb (2 + 3 * x + y) 11 (omega arith)) in omega arith
