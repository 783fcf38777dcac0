-- "two plans that pass 1 to 11, with the same values and the same order of all endpoints, get from such a book the same answer from 12 onward".
-- Assumes nothing.
use mathlib.Core.Path.{◌≡◌, refl, sym, ap, ◌∙◌}
use mathlib.Core.Bool.{Bool, true, false, cond}
use mathlib.Core.List.{List}
use Prim.Native.Nat.{ℕ, ◌<◌}
use native.Mathlib.Omega.{arith}
use lib.Dec.{ltb, eqb}
use Rattle.answers.specs.Numbers.{or_else, no_fault}
use Rattle.layout.specs.Layout.{count}
use Rattle.book.specs.Encode.{atoms}
use Rattle.book.specs.Rules.{rules_of}
use Rattle.book.specs.Fault.{book_fault}
use Rattle.lines.specs.Lines.{line_count, start_of, line_of}
use Rattle.lines.proofs.Laws.{line-length, line-token}
use Rattle.plan.specs.Fault.{plan_fault}
use Rattle.plan.proofs.Good.{no_number}
use Rattle.allen.specs.Order.{order_of}
use Rattle.choice.specs.Met.{nobody}
use Rattle.verdict.specs.Judged.{judged}
use Rattle.claims.proofs.FaultsOfTables.{book_none}
use Rattle.order.specs.Profile.{order_only}
use Rattle.order_claims.specs.Pairs.{Pairs}
use Rattle.order_claims.proofs.Pairs.{pairs_of}
use Rattle.order_claims.proofs.Alike.{TokenAlike, rules_alike}
use Rattle.order_claims.proofs.InProfile.{profile_iff, profile_order, profile_rules}
use Rattle.order_claims.specs.Plans.{endpoint, SameOrder}

-- s in the one plan and s' in the other are the same endpoint
record Same (m : ℕ) (p q : List ℕ) (s s' : ℕ) : Type 0 where
  line : ℕ
  token : ℕ
  side : ℕ
  there : line < m
  below : token < line_count p line
  left : s ≡ endpoint p line token side
  right : s' ≡ endpoint q line token side

-- "before" is one of the three
before-is : (a b : ℕ) → ltb a b ≡ eqb (order_of a b) 0
unfolding order_of
before-is a b = by (ltb a b) (eqb a b)
  where
    by : (x y : Bool) → x ≡ eqb (cond x 0 (cond y 1 2)) 0
    by true y = refl
    by false true = refl
    by false false = refl

module _ (m : ℕ) (p q : List ℕ) (same : SameOrder m p q) where
  order_same : (s s' t t' : ℕ) → Same m p q s s' → Same m p q t t' → ltb s t ≡ ltb s' t'
  order_same s s' t t' a b =
      rw (a.left, a.right, b.left, b.right, before-is (endpoint p a.line a.token a.side) (endpoint p b.line b.token b.side))
      (rw (same.order a.line a.token a.side a.there a.below b.line b.token b.side b.there b.below)
      (sym (before-is (endpoint q a.line a.token a.side) (endpoint q b.line b.token b.side))))

  lines_same : (v : ℕ) → v < m → Pairs (TokenAlike (Same m p q) order_same) (line_of p v) (line_of q v)
  unfolding endpoint start_of
  lines_same v l =
      pairs_of (TokenAlike (Same m p q) order_same) nobody (line_of p v) (line_of q v) (line-length p v ∙ same.tokens v l ∙ sym (line-length q v))
      (λ i k.
      let b : i < line_count p v = omega (arith, line-length p v) in
      let c : i < line_count q v = omega (arith, same.tokens v l) in
      rw (line-token p v i nobody b, line-token q v i nobody c)
      (record {
        value = same.values v l i b;
        start = record { line = v; token = i; side = 0; there = l; below = b; left = refl; right = refl };
        end = record { line = v; token = i; side = 1; there = l; below = b; left = refl; right = refl };
        job = same.jobs v l i b;
      }))

-- THE CLAIM: for a book of the profile and two plans that pass 1 to 11 and 18, the answer is the same
pub same_order : (b p q : List ℕ) → order_only b ≡ true → (plan_fault b p).number ≡ 0 → (plan_fault b q).number ≡ 0
    → SameOrder (count b 0) p q → judged b p ≡ judged b q
unfolding judged
same_order b p q o hp hq same =
    let s = (book_none 1 b).0 ((profile_iff b).0 o).passes in
    rw (no_number b p hp, no_number b q hq)
    (ap (λ (n : _). or_else (book_fault 1 b) (or_else no_fault n))
    (rules_alike (Same (count b 0) p q) (order_same (count b 0) p q same) (line_of p) (line_of q) (count b 0) (lines_same (count b 0) p q same)
    (s.header.some 0 (omega arith)) (rules_of atoms b) (profile_rules b s (profile_order b o))))
