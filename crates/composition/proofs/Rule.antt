-- THE RULE of the table: a relation is in the set of two exactly if three stretches of positive length show it. That the table holds what
-- stretches with ends below 6 show is computed; any three stretches have six ends, and stand in the relations of their ranks. Assumes nothing.
use mathlib.Core.Path.{◌≡◌, refl, sym, ap, ◌∙◌}
use mathlib.Core.Bool.{Bool, true, false, false≢true}
use mathlib.Core.Logic.{◌↔◌}
use mathlib.Core.List.{List, [], ◌∷◌}
use Prim.Native.Nat.{ℕ, ◌≤◌, ◌<◌}
use native.Mathlib.Omega.{arith}
use lib.Dec.{ltb, eqb, lit<}
use lib.ListN.{length, get_or, get_or-eq_default}
use borrow.Author.Tests.{eqb-true, eq-eqb, ltb-true, ltb-false}
use Rattle.words.specs.Words.{in_set}
use Rattle.words.specs.Lists.{all}
use Rattle.words.specs.Least.{first}
use Rattle.allen.specs.Relation.{relation_of}
use Rattle.allen.proofs.One.{like_relation, relation_below}
use Rattle.composition.specs.Sets.{down, unions}
use Rattle.composition.proofs.Sets.{in_unions, in_given, in_bit, in_none, any_found, found-any, all-at, all_at_2, both}
use Rattle.composition.proofs.Ranks.{place, rank_stretch, rank_below, rank_like}
use Rattle.composition.specs.Table.{table, pair_set}
use Rattle.composition.specs.Rule.{Show, stretches, shown}

-- THE TEST, computed over the whole table: 169 sets, each from 3,375 triples of stretches
right : all (λ p. all (λ q. eqb (pair_set p q) (shown p q)) (down 13)) (down 13) ≡ true
unfolding pair_set shown stretches unions down all relation_of first
right = refl

entry : (p q : ℕ) → p < 13 → q < 13 → pair_set p q ≡ shown p q
entry p q h l = eqb-true _ _ (all_at_2 13 (λ p q. eqb (pair_set p q) (shown p q)) right p q h l)

-- ---- what is in a union over the small stretches

record Stretch (f : ℕ → ℕ → ℕ) (r : ℕ) : Type 0 where
  s : ℕ
  e : ℕ
  long : s < e
  small : e < 6
  shows : in_set (f s e) r ≡ true

from-stretches : (f : ℕ → ℕ → ℕ) (r : ℕ) → in_set (stretches f) r ≡ true → Stretch f r
unfolding stretches
from-stretches f r h =
    let a = any_found 6 _ (sym (in_unions (λ e. unions (λ s. f s e) (down e)) (down 6) r) ∙ h) in
    let b = any_found a.at _ (sym (in_unions (λ s. f s a.at) (down a.at) r) ∙ a.holds) in
    record { s = b.at; e = a.at; long = b.below; small = a.below; shows = b.holds }

to-stretches : (f : ℕ → ℕ → ℕ) (r s e : ℕ) → s < e → e < 6 → in_set (f s e) r ≡ true → in_set (stretches f) r ≡ true
unfolding stretches
to-stretches f r s e h l t =
    in_unions (λ e. unions (λ s. f s e) (down e)) (down 6) r
    ∙ found-any 6 _ e l (in_unions (λ s. f s e) (down e) r ∙ found-any e _ s h t)

from-shown : (p q r : ℕ) → in_set (shown p q) r ≡ true → Show p q r
unfolding shown
from-shown p q r h =
    let a = from-stretches _ r h in
    let b = from-stretches _ r a.shows in
    let x = both _ _ (sym (in_given (eqb (relation_of a.s a.e b.s b.e) p) _ r) ∙ b.shows) in
    let c = from-stretches _ r x.1 in
    let y = both _ _ (sym (in_given (eqb (relation_of b.s b.e c.s c.e) q) _ r) ∙ c.shows) in
    record {
      s = a.s;
      e = a.e;
      s' = b.s;
      e' = b.e;
      s'' = c.s;
      e'' = c.e;
      first = a.long;
      second = b.long;
      third = c.long;
      left = eqb-true _ _ x.0;
      right = eqb-true _ _ y.0;
      across = eqb-true _ _ (sym (in_bit (relation_of a.s a.e c.s c.e) r) ∙ y.1);
    }

eqb_self : (n : ℕ) → eqb n n ≡ true
eqb_self n = eq-eqb n n refl

to-shown : (s e s' e' s'' e'' : ℕ) → s < e → e < 6 → s' < e' → e' < 6 → s'' < e'' → e'' < 6
    → in_set (shown (relation_of s e s' e') (relation_of s' e' s'' e'')) (relation_of s e s'' e'') ≡ true
unfolding shown
to-shown s e s' e' s'' e'' h l h' l' h'' l'' =
    let r = relation_of s e s'' e'' in
    to-stretches _ r s e h l
    (to-stretches _ r s' e' h' l'
    (rw (eqb_self (relation_of s e s' e'))
    (to-stretches _ r s'' e'' h'' l'' (rw (eqb_self (relation_of s' e' s'' e'')) (in_bit r r ∙ eqb_self r)))))

-- ---- where an entry is not empty, both are relations

wide : all (λ p. eqb (length (get_or table p [])) 13) (down 13) ≡ true
unfolding down all
wide = refl

pub no_row : (p q : ℕ) → 13 ≤ p → pair_set p q ≡ 0
unfolding pair_set
no_row p q h = ap (λ (l : List ℕ). get_or l q 0) (get_or-eq_default table [] h)

pub no_column : (p q : ℕ) → p < 13 → 13 ≤ q → pair_set p q ≡ 0
unfolding pair_set
no_column p q l h =
    let n : length (get_or table p []) ≡ 13 = eqb-true _ _ (all-at 13 (λ p. eqb (length (get_or table p [])) 13) wide p l) in
    get_or-eq_default (get_or table p []) 0 (omega arith)

entered : (n s r : ℕ) (b : Bool) → ltb n 13 ≡ b → (13 ≤ n → s ≡ 0) → in_set s r ≡ true → n < 13
entered n s r true t e h = ltb-true n 13 t
entered n s r false t e h = absurd (false≢true (sym (in_none r) ∙ rw (e (ltb-false n 13 t)) at h))

-- ---- THE RULE

-- three stretches show what the table has
pub table_has : (s e s' e' s'' e'' : ℕ) → s < e → s' < e' → s'' < e''
    → in_set (pair_set (relation_of s e s' e') (relation_of s' e' s'' e'')) (relation_of s e s'' e'') ≡ true
table_has s e s' e' s'' e'' h h' h'' =
    let l = s ∷ e ∷ s' ∷ e' ∷ s'' ∷ e'' ∷ [] in
    let first = like_relation (rank_like l 0 1 2 3 (lit< tt) (lit< tt) (lit< tt) (lit< tt)) in
    let second = like_relation (rank_like l 2 3 4 5 (lit< tt) (lit< tt) (lit< tt) (lit< tt)) in
    let third = like_relation (rank_like l 0 1 4 5 (lit< tt) (lit< tt) (lit< tt) (lit< tt)) in
    rw (entry _ _ (relation_below s e s' e' h h') (relation_below s' e' s'' e'' h' h''), first, second, third)
    (to-shown (place l 0) (place l 1) (place l 2) (place l 3) (place l 4) (place l 5) (rank_stretch l 0 1 (lit< tt) h) (rank_below l 1 (lit< tt))
    (rank_stretch l 2 3 (lit< tt) h') (rank_below l 3 (lit< tt)) (rank_stretch l 4 5 (lit< tt) h'') (rank_below l 5 (lit< tt)))

pub the_rule : (p q r : ℕ) → (in_set (pair_set p q) r ≡ true) ↔ Show p q r
the_rule p q r = (
  λ h. let a = entered p _ r (ltb p 13) refl (no_row p q) h in
      let b = entered q _ r (ltb q 13) refl (no_column p q a) h in
      from-shown p q r (rw (entry p q a b) at h),
  λ w. rw (← w.left, ← w.right, ← w.across) (table_has _ _ _ _ _ _ w.first w.second w.third),
)
