-- The header of a plan is good just where no word of it is wrong, and then the tokens of each line stand inside the plan's words. Assumes
-- nothing.
use mathlib.Core.Path.{◌≡◌, refl, sym, ap, ◌∙◌}
use mathlib.Core.Bool.{Bool, true, false, ◌&&◌, not}
use mathlib.Core.Logic.{◌⊎◌, inl, inr, ⊎_elim}
use mathlib.Core.List.{List}
use Prim.Native.Nat.{ℕ, zero, suc, ◌+◌, ◌-◌, ◌*◌, ◌/◌, ◌%◌, ◌≤◌, ◌<◌}
use native.Mathlib.Nat.{add-zero, add-suc, le_refl}
use native.Mathlib.Omega.{arith}
use lib.Dec.{ltb, eqb}
use lib.ListN.{length}
use borrow.Author.Tests.{ltb-false, eqb-true, eqb-false, not-false, le-ltb, eq-eqb, ne_eqb}
use Rattle.words.specs.Least.{Clear}
use Rattle.layout.specs.Layout.{count}
use Rattle.lines.specs.Lines.{line_first, line_count, token_width, line_place}
use Rattle.lines.specs.Fault.{sum_before, head_wrong}
use Rattle.lines.specs.Good.{HeadGood}
use Rattle.lines.proofs.Width.{words_rise}

-- an edition that isn't wrong is 1 or 2, and back
edition_good : (x : ℕ) → (not (eqb x 1) && not (eqb x 2)) ≡ false → (x ≡ 1) ⊎ (x ≡ 2)
edition_good x h = split (eqb x 1) refl h
  where
    split : (t : Bool) → eqb x 1 ≡ t → (not t && not (eqb x 2)) ≡ false → (x ≡ 1) ⊎ (x ≡ 2)
    split true e n = inl (eqb-true _ _ e)
    split false e n = inr (eqb-true _ _ (not-false _ n))

edition_back : (x : ℕ) → (x ≡ 1) ⊎ (x ≡ 2) → (not (eqb x 1) && not (eqb x 2)) ≡ false
edition_back x = ⊎_elim (λ (h : x ≡ 1). rw (eq-eqb x 1 h)) (λ (h : x ≡ 2). rw h)

module _ (b p : List ℕ) where
  -- the two words of line v
  first_wrong : (v : ℕ) → head_wrong b p (3 + 2 * v) ≡ not (eqb (line_first p v) (sum_before p v))
  unfolding head_wrong
  first_wrong v =
      let half : (3 + 2 * v - 3) / 2 ≡ v = omega arith in
      rw (
        ne_eqb (3 + 2 * v) 0 (omega arith),
        ne_eqb (3 + 2 * v) 1 (omega arith),
        ne_eqb (3 + 2 * v) 2 (omega arith),
        eq-eqb ((3 + 2 * v) % 2) 1 (omega arith),
        half,
      )

  count_wrong : (v : ℕ) → head_wrong b p (4 + 2 * v) ≡ ltb 512 (line_count p v)
  unfolding head_wrong
  count_wrong v =
      rw (
        ne_eqb (4 + 2 * v) 0 (omega arith),
        ne_eqb (4 + 2 * v) 1 (omega arith),
        ne_eqb (4 + 2 * v) 2 (omega arith),
        ne_eqb ((4 + 2 * v) % 2) 1 (omega arith),
      )

  -- no word before the tokens is wrong: the header is good
  pub head_good : Clear (head_wrong b p) (3 + 2 * count b 0) → HeadGood b p
  unfolding head_wrong
  head_good h =
      record {
        edition = edition_good _ (h 0 (omega arith));
        total = eqb-true _ _ (not-false _ (h 1 (omega arith)));
        timelines = eqb-true _ _ (not-false _ (h 2 (omega arith)));
        follow = λ v l. eqb-true _ _ (not-false _ (sym (first_wrong v) ∙ h (3 + 2 * v) (omega arith)));
        few = λ v l. ltb-false _ _ (sym (count_wrong v) ∙ h (4 + 2 * v) (omega arith));
      }

  -- and back: each word is one of the first three, or one of the two of a line
  pub head_back : HeadGood b p → Clear (head_wrong b p) (3 + 2 * count b 0)
  unfolding head_wrong
  head_back g zero l = edition_back _ g.edition
  head_back g (suc zero) l = rw (eq-eqb _ _ g.total)
  head_back g (suc (suc zero)) l = rw (eq-eqb _ _ g.timelines)
  head_back g (suc (suc (suc m))) l = side (eqb (m % 2) 0) refl
    where
      side : (t : Bool) → eqb (m % 2) 0 ≡ t → head_wrong b p (suc (suc (suc m))) ≡ false
      side true e =
          let even : m % 2 ≡ 0 = eqb-true _ _ e in
          let here : suc (suc (suc m)) ≡ 3 + 2 * (m / 2) = omega arith in
          ap (head_wrong b p) here ∙ first_wrong (m / 2) ∙ rw (eq-eqb _ _ (g.follow (m / 2) (omega arith)))
      side false e =
          let odd : m % 2 ≡ 0 → ⊥ = eqb-false _ _ e in
          let here : suc (suc (suc m)) ≡ 4 + 2 * (m / 2) = omega arith in
          ap (head_wrong b p) here ∙ count_wrong (m / 2) ∙ le-ltb _ _ (g.few (m / 2) (omega arith))

  -- ---- the tokens of each line stand inside the words

  module _ (g : HeadGood b p) where
    -- a line's first token and count lead to the next line's
    next-sum : (v : ℕ) → v < count b 0 → sum_before p (suc v) ≡ sum_before p v + line_count p v
    unfolding sum_before
    next-sum v l =
        let last : suc v - 1 ≡ v = omega arith in
        rw (ne_eqb (suc v) 0 (omega arith), last, g.follow v l)

    -- so the sums don't fall
    sums_rise : (v m : ℕ) → v + m ≤ count b 0 → sum_before p v ≤ sum_before p (v + m)
    sums_rise v zero l = rw (add-zero v) (le_refl _)
    sums_rise v (suc m) l = rw (add-suc v m) (omega (arith, sums_rise v m (omega arith), next-sum (v + m) (omega arith)))

    pub line_inside : 3 + 2 * count b 0 + token_width p * sum_before p (count b 0) ≡ length p
        → (v : ℕ) → v < count b 0 → line_place p v + token_width p * line_count p v ≤ length p
    line_inside whole v l =
        let rest : suc v + (count b 0 - suc v) ≡ count b 0 = omega arith in
        let most : sum_before p (suc v) ≤ sum_before p (count b 0) = rw rest at (sums_rise (suc v) (count b 0 - suc v) (omega arith)) in
        let sum : line_first p v + line_count p v ≤ sum_before p (count b 0) = omega (arith, next-sum v l, g.follow v l) in
        omega (arith, words_rise (token_width p) sum, g.timelines)
