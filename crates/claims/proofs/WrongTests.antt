-- The tests of the fault table's rows 1 to 7 but 4 say just what Wrongs says in plain facts; RecordTests has those of 4. Assumes nothing.
use mathlib.Core.Path.{◌≡◌, refl, sym, ap, ◌∙◌, subst}
use mathlib.Core.Bool.{Bool, true, false, ◌||◌, ◌&&◌, not, true≢false, false≢true}
use mathlib.Core.Logic.{◌↔◌, ◌⊎◌, inl, inr, ⊎_elim}
use mathlib.Core.List.{List}
use Prim.Native.Nat.{ℕ, zero, suc, ◌+◌, ◌-◌, ◌*◌, ◌/◌, ◌%◌, ◌<◌}
use native.Mathlib.Decide.{ℕ_discrete}
use native.Mathlib.Omega.{arith}
use lib.Dec.{ltb, eqb}
use borrow.Author.Tests.{ltb-true, ltb-false, lt-ltb, le-ltb, eqb-false, eq-eqb, ne_eqb, not-true}
use Rattle.words.specs.Words.{word}
use Rattle.words.specs.Least.{least, Clear}
use Rattle.words.proofs.Least.{least_law, least_at, least-end}
use Rattle.layout.specs.Layout.{fewest, most, count, offset, begins, header_wrong, unused}
use Rattle.book.specs.Fault.{leaves}
use Rattle.lines.specs.Lines.{line_first, line_count}
use Rattle.lines.specs.Fault.{sum_before, head_wrong}
use Rattle.claims.specs.Wrongs.{First, None, HeaderWrong, edition, total, few, many, elsewhere, Leaves, values, alternatives, names, asks, HeadWrong, timelines, first}

-- ---- laws of tests

-- one or the other is so
pub or_so : (a c : Bool) → ((a || c) ≡ true) ↔ ((a ≡ true) ⊎ (c ≡ true))
or_so true c = (λ h. inl refl, λ h. refl)
or_so false c = (λ h. inr h, λ h. ⊎_elim (λ q. absurd (false≢true q)) (λ q. q) h)

-- one and the other is so
pub both_so : (a c : Bool) → ((a && c) ≡ true) ↔ ((a ≡ true) × (c ≡ true))
both_so true c = (λ h. (refl, h), λ h. h.1)
both_so false c = (λ h. absurd (false≢true h), λ h. h.0)

-- two numbers are not equal
pub not_eq : (x y : ℕ) → (not (eqb x y) ≡ true) ↔ (x ≡ y → ⊥)
not_eq x y = (λ h. eqb-false _ _ (not-true _ h), λ h. rw (ne_eqb x y h))

-- a test that fails where what it says isn't so, and one that is true where it isn't
pub unless : (t : Bool) (P : Type 0) → ((t ≡ true) ↔ P) → (t ≡ false) ↔ (P → ⊥)
unless true P h = (λ e. absurd (true≢false e), λ n. absurd (n (h.0 refl)))
unless false P h = (λ e q. false≢true (h.1 q), λ n. refl)

pub otherwise : (t : Bool) (P : Type 0) → ((t ≡ false) ↔ P) → (t ≡ true) ↔ (P → ⊥)
otherwise true P h = (λ e q. true≢false (h.1 q), λ n. refl)
otherwise false P h = (λ e. absurd (false≢true e), λ n. absurd (n (h.0 refl)))

module _ (n : ℕ) (p : ℕ → Bool) (W : ℕ → Type 0) (iff : (k : ℕ) → (p k ≡ true) ↔ W k) where
  -- the least is not below n: none is wrong
  pub none_is : (ltb (least n p) n ≡ false) ↔ None n W
  none_is = (
    λ h k l. (unless (p k) (W k) (iff k)).0 ((least_law n p).clear k (omega (arith, ltb-false (least n p) n h))),
    λ h.
        let c : Clear p n = λ k l. (unless (p k) (W k) (iff k)).1 (h k l) in
        le-ltb (least n p) n (omega (arith, least-end n p n c (omega arith) (omega arith))),
  )

  -- the least is k, below n: k is the first that is wrong
  pub first-is : (k : ℕ) → ((ltb (least n p) n ≡ true) × (least n p ≡ k)) ↔ First n W k
  first-is k = (
    λ h.
        let q = least_law n p in
        let l = ltb-true (least n p) n h.0 in
        subst (First n W) h.1
        (record { below = l; here = (iff _).0 (q.here l); before = λ j m. (unless (p j) (W j) (iff j)).0 (q.clear j m) }),
    λ f.
        let e = least_at n p k (λ j l. (unless (p j) (W j) (iff j)).1 (f.before j l)) f.below ((iff k).1 f.here) in
        let l = f.below in
        (lt-ltb (least n p) n (omega arith), sym e),
  )

  -- the least is the n itself where none is wrong
  pub none-least : None n W → least n p ≡ n
  none-least h = sym (least-end n p n (λ k l. (unless (p k) (W k) (iff k)).1 (h k l)) (omega arith) (omega arith))

-- ---- the tests of a book say what is wrong with it

module _ (e : ℕ) (b : List ℕ) where
  -- the two words of table t in the header
  count_test : (t : ℕ) → (header_wrong e b (2 + 2 * t) ≡ true) ↔ ((count b t < fewest t) ⊎ (most t < count b t))
  unfolding header_wrong
  count_test t =
      let k : ℕ = 2 + 2 * t in
      let at : (2 + 2 * t - 2) / 2 ≡ t = omega arith in
      simp (ne_eqb k 0 (omega arith), ne_eqb k 1 (omega arith), eq-eqb (k % 2) 0 (omega arith), at, or_so) (
        λ h. ⊎_elim (λ q. inl (ltb-true _ _ q)) (λ q. inr (ltb-true _ _ q)) h,
        λ h. ⊎_elim (λ q. inl (lt-ltb _ _ q)) (λ q. inr (lt-ltb _ _ q)) h,
      )

  offset_test : (t : ℕ) → (header_wrong e b (3 + 2 * t) ≡ true) ↔ (offset b t ≡ begins e b t → ⊥)
  unfolding header_wrong
  offset_test t =
      let k : ℕ = 3 + 2 * t in
      let at : (3 + 2 * t - 2) / 2 ≡ t = omega arith in
      simp (ne_eqb k 0 (omega arith), ne_eqb k 1 (omega arith), ne_eqb (k % 2) 0 (omega arith), at) (not_eq _ _)

  -- each word of the header
  header-to : (k : ℕ) → header_wrong e b k ≡ true → HeaderWrong e b k
  unfolding header_wrong
  header-to zero h = edition ((not_eq _ _).0 h)
  header-to (suc zero) h = total ((not_eq _ _).0 h)
  header-to (suc (suc m)) h =
      let t : ℕ = m / 2 in
      elim (ℕ_discrete (m % 2) 0) [
        | yes q ↦
            let at : suc (suc m) ≡ 2 + 2 * t = omega arith in
            subst (HeaderWrong e b) (sym at) (⊎_elim (few t) (many t) ((count_test t).0 (ap (header_wrong e b) (sym at) ∙ h)))
        | no n ↦
            let at : suc (suc m) ≡ 3 + 2 * t = omega arith in
            subst (HeaderWrong e b) (sym at) (elsewhere t ((offset_test t).0 (ap (header_wrong e b) (sym at) ∙ h)))
      ]

  header-from : (k : ℕ) → HeaderWrong e b k → header_wrong e b k ≡ true
  unfolding header_wrong
  header-from _ (edition h) = (not_eq _ _).1 h
  header-from _ (total h) = (not_eq _ _).1 h
  header-from _ (few t h) = (count_test t).1 (inl h)
  header-from _ (many t h) = (count_test t).1 (inr h)
  header-from _ (elsewhere t h) = (offset_test t).1 h

  pub header_iff : (k : ℕ) → (header_wrong e b k ≡ true) ↔ HeaderWrong e b k
  header_iff k = (header-to k, header-from k)

  -- each table that leads into a next one
  pub leaves_iff : (t : ℕ) → (leaves e b t ≡ true) ↔ Leaves e b t
  unfolding leaves
  leaves_iff t = (to t, back t)
    where
      to : (t : ℕ) → leaves e b t ≡ true → Leaves e b t
      to zero h = values ((not_eq _ _).0 h)
      to (suc zero) h = absurd (false≢true h)
      to (suc (suc zero)) h = alternatives ((not_eq _ _).0 h)
      to (suc (suc (suc zero))) h = ⊎_elim (λ q. names ((not_eq _ _).0 q)) (λ q. asks ((not_eq _ _).0 q)) ((or_so _ _).0 h)
      to (suc (suc (suc (suc zero)))) h = absurd (false≢true h)
      to (suc (suc (suc (suc (suc zero))))) h = absurd (false≢true h)
      to (suc (suc (suc (suc (suc (suc t)))))) h = absurd (false≢true h)

      back : (t : ℕ) → Leaves e b t → leaves e b t ≡ true
      back _ (values h) = (not_eq _ _).1 h
      back _ (alternatives h) = (not_eq _ _).1 h
      back _ (names h) = (or_so (unused e b 3 0 4) (unused e b 3 2 5)).1 (inl ((not_eq _ _).1 h))
      back _ (asks h) = (or_so (unused e b 3 0 4) (unused e b 3 2 5)).1 (inr ((not_eq _ _).1 h))

-- ---- the tests of a plan's words before its tokens

module _ (b p : List ℕ) where
  -- the two words of line v
  first_test : (v : ℕ) → (head_wrong b p (3 + 2 * v) ≡ true) ↔ (line_first p v ≡ sum_before p v → ⊥)
  unfolding head_wrong
  first_test v =
      let k : ℕ = 3 + 2 * v in
      let at : (3 + 2 * v - 3) / 2 ≡ v = omega arith in
      simp (ne_eqb k 0 (omega arith), ne_eqb k 1 (omega arith), ne_eqb k 2 (omega arith), eq-eqb (k % 2) 1 (omega arith), at) (not_eq _ _)

  many_test : (v : ℕ) → (head_wrong b p (4 + 2 * v) ≡ true) ↔ (512 < line_count p v)
  unfolding head_wrong
  many_test v =
      let k : ℕ = 4 + 2 * v in
      simp (ne_eqb k 0 (omega arith), ne_eqb k 1 (omega arith), ne_eqb k 2 (omega arith), ne_eqb (k % 2) 1 (omega arith)) (ltb-true _ _, lt-ltb _ _)

  -- each word before the tokens
  head-to : (k : ℕ) → head_wrong b p k ≡ true → HeadWrong b p k
  unfolding head_wrong
  head-to zero h = let q = (both_so (not (eqb (word p 0) 1)) (not (eqb (word p 0) 2))).0 h in edition ((not_eq _ _).0 q.0) ((not_eq _ _).0 q.1)
  head-to (suc zero) h = total ((not_eq _ _).0 h)
  head-to (suc (suc zero)) h = timelines ((not_eq _ _).0 h)
  head-to (suc (suc (suc m))) h =
      let v : ℕ = m / 2 in
      elim (ℕ_discrete (m % 2) 0) [
        | yes q ↦
            let at : suc (suc (suc m)) ≡ 3 + 2 * v = omega arith in
            subst (HeadWrong b p) (sym at) (first v ((first_test v).0 (ap (head_wrong b p) (sym at) ∙ h)))
        | no n ↦
            let at : suc (suc (suc m)) ≡ 4 + 2 * v = omega arith in
            subst (HeadWrong b p) (sym at) (many v ((many_test v).0 (ap (head_wrong b p) (sym at) ∙ h)))
      ]

  head-from : (k : ℕ) → HeadWrong b p k → head_wrong b p k ≡ true
  unfolding head_wrong
  head-from _ (edition h k) = (both_so (not (eqb (word p 0) 1)) (not (eqb (word p 0) 2))).1 ((not_eq _ _).1 h, (not_eq _ _).1 k)
  head-from _ (total h) = (not_eq _ _).1 h
  head-from _ (timelines h) = (not_eq _ _).1 h
  head-from _ (first v h) = (first_test v).1 h
  head-from _ (many v h) = (many_test v).1 h

  pub head_iff : (k : ℕ) → (head_wrong b p k ≡ true) ↔ HeadWrong b p k
  head_iff k = (head-to k, head-from k)
