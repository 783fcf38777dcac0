-- "until nothing changes" has one end, in whatever order the sets are cut; and `narrowed` computes it. Assumes nothing.
use mathlib.Core.Path.{◌≡◌, refl, sym, ap, ◌∙◌}
use mathlib.Core.Bool.{Bool, true, false, cond, false≢true}
use mathlib.Core.List.{List}
use Prim.Native.Nat.{ℕ, zero, suc, ◌+◌, ◌*◌, ◌^◌, ◌≤◌, ◌<◌}
use native.Mathlib.Nat.{pow-suc}
use native.Mathlib.Omega.{arith}
use lib.Dec.{eqb, ltb, lit<}
use lib.ListN.{length, get_or}
use lib.Seq.{ext_get_or}
use borrow.Author.Tests.{eqb-true, eq-eqb, ltb-true, ltb-false}
use Rattle.words.specs.Words.{in_set}
use Rattle.composition.specs.Table.{compose_sets}
use Rattle.composition.proofs.Sets.{in_and, in_none, both, and_both, all-at, all_each, iff_same, same_set}
use Rattle.composition.proofs.Algebra.{from_compose}
use Rattle.narrowing.specs.Narrowed.{Sub, Closed, Narrowed, Cut, cut_word, across, step_word, through, still, passes, sum, narrowed}
use Rattle.narrowing.specs.Passes.{Passed}
use Rattle.narrowing.proofs.Steps.{closed_if, cut_none, cut_then, passed_none, passed_more, passed_narrow}

-- ---- one end

two_power : (n : ℕ) → n < 2 ^ n
two_power zero = lit< tt
two_power (suc n) = let h = two_power n in rw (pow-suc 2 n) (omega arith)

same_bits : (a b : ℕ) → ((r : ℕ) → in_set a r ≡ in_set b r) → a ≡ b
same_bits a b f = let h = two_power (a + b) in same_set (a + b) a b (omega arith) (omega arith) (λ r _. f r)

pub one_end : {n : ℕ} {start a b : List ℕ} → Narrowed n start a → Narrowed n start b → a ≡ b
one_end {n} {start} {a} {b} f g = ext_get_or 0 a b (f.cut.size ∙ sym g.cut.size) (λ p l. word p (ltb p (n * n)) refl)
  where
    within : {a b : List ℕ} → Narrowed n start a → Narrowed n start b → (p : ℕ) → p < n * n → Sub (get_or a p 0) (get_or b p 0)
    within {a} f g p h = g.cut.keeps (λ p. get_or a p 0) f.closed (λ p l. f.cut.within p) p h

    word : (p : ℕ) (t : Bool) → ltb p (n * n) ≡ t → get_or a p 0 ≡ get_or b p 0
    word p true e = let h = ltb-true p (n * n) e in same_bits _ _ (λ r. iff_same _ _ (within f g p h r) (within g f p h r))
    word p false e = let h = ltb-false p (n * n) e in f.cut.rest p h ∙ sym (g.cut.rest p h)

-- ---- nothing more can be cut, and an empty set leaves none

nothing_in : (r : ℕ) → in_set 0 r ≡ true → ⊥
nothing_in r h = false≢true (sym (in_none r) ∙ h)

empty : (a : ℕ) → ((r : ℕ) → in_set a r ≡ true → ⊥) → a ≡ 0
empty a f = same_bits a 0 (λ r. iff_same _ _ (λ h. absurd (f r h)) (λ h. absurd (nothing_in r h)))

none_left : (s t r : ℕ) → s ≡ 0 → in_set (compose_sets s t) r ≡ true → ⊥
none_left s t r e h = let q = from_compose s t r h in nothing_in q.p (ap (λ (x : ℕ). in_set x q.p) (sym e) ∙ q.in_s)

none_right : (s t r : ℕ) → t ≡ 0 → in_set (compose_sets s t) r ≡ true → ⊥
none_right s t r e h = let q = from_compose s t r h in nothing_in q.q (ap (λ (x : ℕ). in_set x q.q) (sym e) ∙ q.in_t)

module _ (n : ℕ) (m : List ℕ) (c : Closed n (λ p. get_or m p 0)) where
  pub nothing_cut : (i k j : ℕ) → i < n → k < n → j < n → cut_word m (i * n + j) (i * n + k) (k * n + j) ≡ get_or m (i * n + j) 0
  unfolding cut_word
  nothing_cut i k j hi hk hj =
      same_bits _ _ (λ r. iff_same _ _ (λ h. (both (in_set (get_or m (i * n + j) 0) r) _ (sym (in_and _ _ r) ∙ h)).0) (λ h. in_and _ _ r ∙ and_both h (c i k j hi hk hj r h)))

  -- in the row of an empty set, and then everywhere
  empty_row : (i j : ℕ) → i < n → j < n → get_or m (i * n + j) 0 ≡ 0 → (l : ℕ) → l < n → get_or m (i * n + l) 0 ≡ 0
  empty_row i j hi hj e l hl = empty _ (λ r h. none_left _ (get_or m (j * n + l) 0) r e (c i j l hi hj hl r h))

  pub all_empty : (i j : ℕ) → i < n → j < n → get_or m (i * n + j) 0 ≡ 0 → (k l : ℕ) → k < n → l < n → get_or m (k * n + l) 0 ≡ 0
  all_empty i j hi hj e k l hk hl = empty _ (λ r h. none_right (get_or m (k * n + i) 0) _ r (empty_row i j hi hj e l hl) (c k i l hk hi hl r h))

-- ---- `narrowed` is that end

-- a pass, whatever it says of itself
record Gone (n k : ℕ) (m : List ℕ) : Type 0 where
  same : Bool
  passed : Passed n k m (through n k m) same

gone : (n k : ℕ) (m : List ℕ) → k ≤ n * n * n → n * n ≤ length m → Gone n k m
unfolding through
gone n zero m h l = record { same = true; passed = passed_none n m }
gone n (suc t) m h l =
    let g = gone n t m (omega arith) l in
    record { same = _; passed = passed_more n t m (through n t m) (omega arith) l g.same _ g.passed refl }

-- a pass that says that nothing changed: no step would change anything
pass_still : (n : ℕ) (m : List ℕ) → ((t : ℕ) → t < n * n * n → step_word n t m ≡ get_or m (across n t) 0) → still n m ≡ true
unfolding still
pass_still n m h = all_each (n * n * n) _ (λ t l. eq-eqb _ _ (h t l))

still-closed : (n : ℕ) (m : List ℕ) → still n m ≡ true → Narrowed n m m
unfolding still
still-closed n m h =
    record { cut = cut_none n m; closed = closed_if n m (λ t l. eqb-true _ _ (all-at (n * n * n) (λ t. eqb (step_word n t m) (get_or m (across n t) 0)) h t l)) }

-- a table that some step changes has a smaller sum after the pass
falls : (n : ℕ) (m : List ℕ) → still n m ≡ false → (b : Bool) → Passed n (n * n * n) m (through n (n * n * n) m) b → sum (through n (n * n * n) m) < sum m
falls n m e true p = absurd (false≢true (sym e ∙ pass_still n m (p.still refl)))
falls n m e false p = p.less refl

narrow_then : {n : ℕ} {a b c : List ℕ} → Cut n a b → Narrowed n b c → Narrowed n a c
narrow_then f g = record { cut = cut_then f g.cut; closed = g.closed }

passes_narrow : (n k : ℕ) (m : List ℕ) → sum m < k → n * n ≤ length m → Narrowed n m (passes n k m)
unfolding passes
passes_narrow n zero m h l = absurd (omega arith)
passes_narrow n (suc k) m h l = by (still n m) refl (λ less long. passes_narrow n k (through n (n * n * n) m) less long)
  where
    by : (b : Bool) → still n m ≡ b
        → (sum (through n (n * n * n) m) < k → n * n ≤ length (through n (n * n * n) m)
        → Narrowed n (through n (n * n * n) m) (passes n k (through n (n * n * n) m)))
        → Narrowed n m (cond b m (passes n k (through n (n * n * n) m)))
    by true e more = still-closed n m e
    by false e more =
        let g = gone n (n * n * n) m (omega arith) l in
        let size = g.passed.cut.size in
        narrow_then g.passed.cut (more (omega (arith, falls n m e g.same g.passed)) (omega arith))

-- THE LAW: the greatest table below m that composition cuts no further
pub narrowed-is : (n : ℕ) (m : List ℕ) → n * n ≤ length m → Narrowed n m (narrowed n m)
unfolding narrowed
narrowed-is n m l = passes_narrow n (sum m + 1) m (omega arith) l

-- and there is no other
pub is-narrowed : {n : ℕ} {m after : List ℕ} → n * n ≤ length m → Narrowed n m after → after ≡ narrowed n m
is-narrowed {n} {m} l h = one_end h (narrowed-is n m l)

-- a pass that changed nothing, after others: the end, in the words of the code
pub settled : {n : ℕ} {first start after : List ℕ} {r : Bool} → n * n ≤ length first → Cut n first start → Passed n (n * n * n) start after r → r ≡ true
    → after ≡ narrowed n first
settled l c p e = is-narrowed l (passed_narrow c (rw e at p))
