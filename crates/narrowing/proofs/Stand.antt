-- "A narrowed set loses no relation" in which tokens stand: the table that says how they stand, and no more, is one that composition cuts
-- nothing of; the first table has each of its relations, and so have the tables that constraints leave which the tokens meet. Assumes nothing.
use mathlib.Core.Path.{◌≡◌, refl, sym, ap, ◌∙◌}
use mathlib.Core.Bool.{Bool, true, false, cond}
use mathlib.Core.Logic.{⊎_elim}
use mathlib.Core.List.{List, [], ◌∷◌}
use Prim.Native.Nat.{ℕ, zero, suc, ◌+◌, ◌-◌, ◌*◌, ◌/◌, ◌%◌, ◌^◌, ◌≤◌, ◌<◌}
use native.Mathlib.Nat.{mod-lt, div-lt_iff_lt-mul, div-add-mod', eq-or-lt_of_le, le_of_suc-le-suc}
use native.Mathlib.Omega.{arith}
use lib.Dec.{eqb, lit<}
use lib.Bits.{bit_and}
use lib.ListN.{length, get_or, set, length-set}
use lib.Seq.{get_or-set_same, get_or-set_other}
use borrow.Author.Tests.{eqb-true, eq-eqb}
use Rattle.words.specs.Words.{in_set}
use Rattle.words.specs.Lists.{all, All}
use Rattle.book.specs.Rules.{Constraint}
use Rattle.allen.specs.Relation.{relation_of, converse}
use Rattle.allen.proofs.One.{relation_below, converse-is, stands_in}
use Rattle.composition.specs.Sets.{down}
use Rattle.composition.specs.Table.{converse_set}
use Rattle.composition.proofs.Sets.{all-at, in_bit, in_and, and_both}
use Rattle.composition.proofs.Rule.{table_has}
use Rattle.composition.proofs.Algebra.{to_compose, to-converse}
use Rattle.narrowing.specs.First.{first_word, filled, cut_by, constrained, constrained_all}
use Rattle.narrowing.specs.Passes.{Seated}
use Rattle.narrowing.specs.Narrowed.{Closed, Cut}
use Rattle.narrowing.proofs.Places.{below, div_cell, mod_cell}
use Rattle.narrowing.proofs.Steps.{stored}
use Rattle.narrowing.proofs.Tables.{length-filled, length-constrained}

filled_at : (n k : ℕ) (m : List ℕ) (p : ℕ) → k ≤ length m → p < k → get_or (filled n k m) p 0 ≡ first_word n p
unfolding filled
filled_at n zero m p h l = absurd (omega arith)
filled_at n (suc k) m p h l =
    ⊎_elim (λ q. rw q (get_or-set_same (filled n k m) k (first_word n k) 0 (omega (arith, length-filled n k m))))
    (λ q. get_or-set_other (filled n k m) k p (first_word n k) 0 (λ e. omega arith) ∙ filled_at n k m p (omega arith) q) (eq-or-lt_of_le (le_of_suc-le-suc l))

every : all (λ k. in_set 8191 k) (down 13) ≡ true
unfolding all down in_set
every = refl

converses : all (λ k. eqb (converse k) (12 - k)) (down 13) ≡ true
unfolding all down
converses = refl

-- ---- THE THEOREM: "A narrowed set loses no relation" in which tokens stand

module _ (n : ℕ) (s e : ℕ → ℕ) (long : (i : ℕ) → i < n → s i < e i) where
  -- the relation of tokens i and j
  abbrev pub stand : ℕ → ℕ → ℕ
  stand i j = relation_of (s i) (e i) (s j) (e j)

  -- the table that says how the tokens stand, and no more
  abbrev exact : ℕ → ℕ
  exact p = 2 ^ stand (p / n) (p % n)

  exact_in : (i j : ℕ) → j < n → in_set (exact (i * n + j)) (stand i j) ≡ true
  exact_in i j h = rw (div_cell n i j h, mod_cell n i j h) (in_bit (stand i j) (stand i j) ∙ eq-eqb (stand i j) (stand i j) refl)

  exact-is : (p r : ℕ) → in_set (exact p) r ≡ true → stand (p / n) (p % n) ≡ r
  exact-is p r h = eqb-true _ r (sym (in_bit (stand (p / n) (p % n)) r) ∙ h)

  -- composition cuts nothing of it
  exact-closed : Closed n exact
  exact-closed i k j a b c r h =
      let q : stand i j ≡ r = rw (div_cell n i j c, mod_cell n i j c) at (exact-is (i * n + j) r h) in
      to_compose (exact (i * n + k)) (exact (k * n + j)) r (stand i k) (stand k j) (relation_below _ _ _ _ (long i a) (long k b))
      (relation_below _ _ _ _ (long k b) (long j c)) (exact_in i k b) (exact_in k j c)
      (rw (← q) (table_has (s i) (e i) (s k) (e k) (s j) (e j) (long i a) (long k b) (long j c)))

  pub no_loss : (start after : List ℕ) → Cut n start after → ((i j : ℕ) → i < n → j < n → in_set (get_or start (i * n + j) 0) (stand i j) ≡ true)
      → (i j : ℕ) → i < n → j < n → in_set (get_or after (i * n + j) 0) (stand i j) ≡ true
  no_loss start after c h i j a b =
      c.keeps exact exact-closed
      (λ p l r k. let z : 0 < n = omega arith in
      rw (← exact-is p r k)
      (ap (λ (x : ℕ). in_set (get_or start x 0) (stand (p / n) (p % n))) (sym (div-add-mod' p n)) ∙ h (p / n) (p % n) ((div-lt_iff_lt-mul z).1 l) (mod-lt p z)))
      (i * n + j) (below i n j n a b) (stand i j) (exact_in i j b)

  -- ---- the first table: cut by constraints

  -- every two tokens stand in a relation of their set
  abbrev pub Holds : List ℕ → Type 0
  Holds m = (i j : ℕ) → i < n → j < n → in_set (get_or m (i * n + j) 0) (stand i j) ≡ true

  -- a set cut by one that has the tokens' relation
  pub cut_holds : (m : List ℕ) (a b d : ℕ) → n * n ≤ length m → a < n → b < n → in_set d (stand a b) ≡ true → Holds m
      → Holds (set m (a * n + b) (bit_and (get_or m (a * n + b) 0) d))
  cut_holds m a b d size la lb h f i j li lj =
      let inside = below a n b n la lb in
      stored m (i * n + j) (a * n + b) _ (eqb (i * n + j) (a * n + b)) refl (omega arith) (λ v. in_set v (stand i j) ≡ true)
      (λ e. let p : i ≡ a = sym (div_cell n i j lj) ∙ ap (λ (x : ℕ). x / n) e ∙ div_cell n a b lb in
      let q : j ≡ b = sym (mod_cell n i j lj) ∙ ap (λ (x : ℕ). x % n) e ∙ mod_cell n a b lb in
      in_and _ d (stand i j) ∙ and_both (ap (λ (x : ℕ). in_set (get_or m x 0) (stand i j)) (sym e) ∙ f i j li lj) (rw (p, q) h))
      (f i j li lj)

  -- the converse of a set has the relation of right to left
  pub turned_in : (a b d : ℕ) → a < n → b < n → in_set d (stand a b) ≡ true → in_set (converse_set d) (stand b a) ≡ true
  turned_in a b d la lb h =
      let c : stand b a ≡ 12 - stand a b = converse-is _ _ _ _ (long a la) (long b lb) ∙ eqb-true _ _ (all-at 13 (λ k. eqb (converse k) (12 - k)) converses (stand a b) (relation_below _ _ _ _ (long a la) (long b lb))) in
      let l = relation_below _ _ _ _ (long a la) (long b lb) in
      let e : 12 - stand b a ≡ stand a b = omega arith in
      to-converse d (stand b a) (omega arith) (rw e h)

module _ (n : ℕ) (s e : ℕ → ℕ) (long : (i : ℕ) → i < n → s i < e i) where
  with_itself : (i : ℕ) → i < n → 6 ≡ stand n s e long i i
  with_itself i h = (stands_in (s i) (e i) (s i) (e i) (long i h) (long i h) 6 (lit< tt)).0 (and_both (eq-eqb (s i) (s i) refl) (eq-eqb (e i) (e i) refl))

  word_has : (i j : ℕ) (b : Bool) → eqb i j ≡ b → i < n → j < n → in_set (cond b 64 8191) (stand n s e long i j) ≡ true
  unfolding in_set
  word_has i j true t a b = rw (← eqb-true i j t, ← with_itself i a)
  word_has i j false t a b = all-at 13 (λ k. in_set 8191 k) every _ (relation_below _ _ _ _ (long i a) (long j b))

  -- tokens of whatever kind stand in relations of the first table
  pub first_holds : (m : List ℕ) → n * n ≤ length m → Holds n s e long (filled n (n * n) m)
  unfolding first_word
  first_holds m h i j a b =
      rw (filled_at n (n * n) m (i * n + j) h (below i n j n a b), div_cell n i j b, mod_cell n i j b) (word_has i j (eqb i j) refl a b)

  -- and those that meet a constraint in relations of what it leaves
  pub constraint_holds_lem : (m : List ℕ) (l r d : ℕ) → n * n ≤ length m → l < n → r < n → in_set d (stand n s e long l r) ≡ true → Holds n s e long m
      → Holds n s e long (constrained n l r d m)
  unfolding constrained cut_by
  constraint_holds_lem m l r d h a b t f =
      let once = set m (l * n + r) (bit_and (get_or m (l * n + r) 0) d) in
      let size : n * n ≤ length once = rw (length-set m (l * n + r) (bit_and (get_or m (l * n + r) 0) d)) h in
      cut_holds n s e long once r l (converse_set d) size b a (turned_in n s e long l r d a b t) (cut_holds n s e long m l r d h a b t f)

  -- and those that meet all of them
  pub all_hold_lem : (f : ℕ) (qs : List Constraint) (m : List ℕ) → n * n ≤ length m
      → All (λ (q : Constraint). Seated n f q.left × Seated n f q.right × (in_set q.set (stand n s e long (q.left - f) (q.right - f)) ≡ true)) qs
      → Holds n s e long m → Holds n s e long (constrained_all n f qs m)
  unfolding constrained_all
  all_hold_lem f [] m size h g = g
  all_hold_lem f (q ∷ qs) m size h g =
      let l = h.0.0 in
      let r = h.0.1 in
      let next = constrained n (q.left - f) (q.right - f) q.set m in
      let same = length-constrained n (q.left - f) (q.right - f) q.set m in
      all_hold_lem f qs next (omega arith) h.1 (constraint_holds_lem m (q.left - f) (q.right - f) q.set size (omega arith) (omega arith) h.0.2 g)
