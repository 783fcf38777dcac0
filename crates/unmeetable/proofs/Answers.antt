-- ""No" is said exactly if none exists", "yes" exactly if times exist, and the times shown are the earliest; two answers that the contract of
-- `earliest` permits are equal, lent words included. Assumes nothing.
use mathlib.Core.Path.{◌≡◌, sym, ap, ◌∙◌}
use mathlib.Core.Bool.{Bool, true, false, cond}
use mathlib.Core.Logic.{◌↔◌, ⊎_elim}
use mathlib.Core.List.{List}
use Prim.Native.Nat.{ℕ, ◌+◌, ◌<◌}
use native.Mathlib.Decide.{ℕ_discrete}
use native.Mathlib.Omega.{arith}
use lib.Dec.{eqb}
use lib.ListN.{length}
use lib.Seq.{ext_get_or}
use Rattle.answers.specs.declared.Numbers.{Numbers}
use Rattle.answers.specs.Numbers.{numbers}
use Rattle.clock.specs.Clock.{no_limit}
use Rattle.clock.proofs.Laws.{lt_or_ge}
use Rattle.layout.specs.Layout.{count}
use Rattle.book.specs.Rules.{Variable, Atom, Alternative, Rule}
use Rattle.book.specs.Fault.{book_fault}
use Rattle.earliest.specs.Times.{Times, shown_from, shown, Earliest, laid, alternative_of, rule_of, SuitsOf, Yes, No, Told}
use Rattle.earliest.proofs.Showing.{shown-long}

-- ---- yes and no

-- of an alternative that the book has
module _ {b : List ℕ} {a : ℕ} {r : Numbers} {before after : List ℕ} (t : Told b a r before after) (e : (book_fault 1 b).number ≡ 0)
    (there : a < count b 3)
  where
    -- "With "yes" the earliest times are shown"
    pub yes-shows : r ≡ numbers 0 1 0 → Yes b a before after
    yes-shows h = ⊎_elim (λ q. q.1) (λ q. absurd (omega (arith, ap (λ (n : Numbers). n.a) (sym h ∙ q.0)))) (t.known e there)

    pub no-shows : r ≡ numbers 0 0 0 → No b a before after
    no-shows h = ⊎_elim (λ q. absurd (omega (arith, ap (λ (n : Numbers). n.a) (sym h ∙ q.0)))) (λ q. q.1) (t.known e there)

    -- "say whether whole-number times of 0 or more exist"
    pub yes-exactly : (r ≡ numbers 0 1 0) ↔ ((x : Times) × SuitsOf b a x)
    yes-exactly = (
      λ h. let y = yes-shows h in (y.times, y.earliest.suits),
      λ s. ⊎_elim (λ q. q.0) (λ q. absurd (q.1.none s.0 s.1)) (t.known e there),
    )

    -- ""No" is said exactly if none exists"
    pub no-exactly : (r ≡ numbers 0 0 0) ↔ ((x : Times) → SuitsOf b a x → ⊥)
    no-exactly = (
      λ h. (no-shows h).none,
      λ n. ⊎_elim (λ q. absurd (n q.1.times q.1.earliest.suits)) (λ q. q.0) (t.known e there),
    )

-- and only such an alternative is told "yes" or "no"
pub asked-of-book : {b : List ℕ} {a : ℕ} {r : Numbers} {before after : List ℕ} → Told b a r before after → r.number ≡ 0
    → ((book_fault 1 b).number ≡ 0) × (a < count b 3)
asked-of-book {b} {a} {r} t z = sound (ℕ_discrete (book_fault 1 b).number 0)
  where
    there : (book_fault 1 b).number ≡ 0 → a < count b 3
    there e =
        ⊎_elim (λ l. l) (λ l. absurd (omega (arith, ap (λ (n : Numbers). n.number) (t.unknown e l).0))) (lt_or_ge a (count b 3))

    sound : Dec ((book_fault 1 b).number ≡ 0) → ((book_fault 1 b).number ≡ 0) × (a < count b 3)
    sound (yes e) = (e, there e)
    sound (no n) = absurd (n (sym (ap (λ (m : Numbers). m.number) (t.refused n).0) ∙ z))

-- ---- two permitted answers

module _ (r : Rule Atom) (a : Alternative Atom) where
  -- as many times are shown of each choice
  same_size : (x y : Times) → length (shown r a x) ≡ length (shown r a y)
  unfolding shown
  same_size x y = by (eqb r.variable no_limit)
    where
      by : (t : Bool) → length (cond t (shown_from x 1 (length a.names)) (shown_from x 0 (length a.names + 1)))
          ≡ length (cond t (shown_from y 1 (length a.names)) (shown_from y 0 (length a.names + 1)))
      by true = shown-long x 1 _ ∙ sym (shown-long y 1 _)
      by false = shown-long x 0 _ ∙ sym (shown-long y 0 _)

  -- and the earliest are one
  pub earliest-one : {variables : List Variable} (x y : Times) → Earliest variables r a x → Earliest variables r a y → shown r a x ≡ shown r a y
  earliest-one x y p q =
      ext_get_or 0 (shown r a x) (shown r a y) (same_size x y) (λ i l. omega (arith, p.first y q.suits i, q.first x p.suits i))

-- THE THEOREM: answer and lent words are settled
pub told-one : {b : List ℕ} {a : ℕ} {r s : Numbers} {before l m : List ℕ} → Told b a r before l → Told b a s before m → (r ≡ s) × (l ≡ m)
told-one {b} {a} {r} {s} {before} {l} {m} p q = sound (ℕ_discrete (book_fault 1 b).number 0)
  where
    known : (book_fault 1 b).number ≡ 0 → a < count b 3 → (r ≡ s) × (l ≡ m)
    known e there =
        ⊎_elim
        (λ x. ⊎_elim
        (λ y. (x.0 ∙ sym y.0, x.1.shows ∙ ap (laid before) (earliest-one (rule_of b a) (alternative_of b a) x.1.times y.1.times x.1.earliest y.1.earliest) ∙ sym y.1.shows))
        (λ y. absurd (y.1.none x.1.times x.1.earliest.suits))
        (q.known e there))
        (λ x. ⊎_elim
        (λ y. absurd (x.1.none y.1.times y.1.earliest.suits))
        (λ y. (x.0 ∙ sym y.0, x.1.stays ∙ sym y.1.stays))
        (q.known e there))
        (p.known e there)

    sound : Dec ((book_fault 1 b).number ≡ 0) → (r ≡ s) × (l ≡ m)
    sound (yes e) =
        ⊎_elim
        (known e)
        (λ f. let x = p.unknown e f in let y = q.unknown e f in (x.0 ∙ sym y.0, x.1 ∙ sym y.1))
        (lt_or_ge a (count b 3))
    sound (no n) = let x = p.refused n in let y = q.refused n in (x.0 ∙ sym y.0, x.1 ∙ sym y.1)
