-- Bounds put into a table: what the table then says is what it said and the bound; and what bounds say of an atom's terms and of a token's
-- start and end. Assumes nothing.
use mathlib.Core.Path.{◌≡◌, refl, ap, ◌∙◌}
use mathlib.Core.Bool.{Bool, true, false, ◌&&◌, ◌||◌, false≢true}
use mathlib.Core.Logic.{◌↔◌, ◌⊎◌, inl, inr, ⊎_elim}
use mathlib.Core.List.{List}
use Prim.Native.Nat.{ℕ, zero, suc, ◌+◌, ◌*◌, ◌≤◌, ◌<◌, max}
use native.Mathlib.Omega.{arith}
use borrow.Author.Count.{below_more}
use borrow.Author.Tests.{eqb-true, eqb-false, leb-true, le-leb, eq-eqb, ne_eqb}
use lib.Dec.{eqb, leb}
use lib.ListN.{length, get_or, set, take, drop, replicate, length-set, get_or-eq_default, get_or-append}
use lib.Seq.{get_or-set_same, get_or-set_other}
use Rattle.std.proofs.Common.{◌++◌, ◌-◌, length-append, length-drop, length-take-le}
use Rattle.std.proofs.lemmas.List.{set-get_or, length-replicate, get_or-append_right, get_or-drop, get_or-replicate}
use Rattle.words.specs.Words.{word}
use Rattle.clock.specs.Clock.{no_limit, last_tick, in_bounds}
use Rattle.clock.proofs.Laws.{lt_or_ge}
use Rattle.book.specs.Rules.{atom_at}
use Rattle.bounds.specs.Bounds.{origin, entry, Near, reach}
use Rattle.bounds.proofs.Raising.{within-set}
use Rattle.earliest.specs.declared.Term.{Term}
use Rattle.earliest.specs.Times.{time_of, Lasting}
use Rattle.earliest.specs.Steps.{times_of, Open, Added, Blank, Bound, time_at, Apart, LimitsFit, KindFits, IsTerm, AtomTimes, AtomsTimed, Named, NamesTimed}

-- ---- one after another

pub added_then : {P Q R : (ℕ → ℕ) → Type 0} {w v u : List ℕ} → Added P w v → Added Q v u
    → ((z : ℕ → ℕ) → z 0 ≡ 0 → (P z × Q z) ↔ R z) → Added R w u
added_then a b e = record {
  fresh = b.fresh;
  says = λ z o. (
    λ h. let q = (b.says z o).0 h in let p = (a.says z o).0 q.0 in (p.0, (e z o).0 (p.1, q.1)),
    λ h. let r = (e z o).1 h.1 in (b.says z o).1 ((a.says z o).1 (h.0, r.0), r.1),
  );
}

pub added_as : {P Q : (ℕ → ℕ) → Type 0} {w v : List ℕ} → Added P w v → ((z : ℕ → ℕ) → z 0 ≡ 0 → P z ↔ Q z) → Added Q w v
added_as a e = record {
  fresh = a.fresh;
  says = λ z o. (
    λ h. let p = (a.says z o).0 h in (p.0, (e z o).0 p.1),
    λ h. (a.says z o).1 (h.0, (e z o).1 h.1),
  );
}

-- nothing put says nothing more
pub added_none : {Q : (ℕ → ℕ) → Type 0} (w : List ℕ) → Open w → ((z : ℕ → ℕ) → Q z) → Added Q w w
added_none w f e = record { fresh = f; says = λ z o. (λ h. (h, e z), λ h. h.0) }

-- ---- one bound

module _ (w : List ℕ) (i j e : ℕ) (f : Open w) (hi : i < 12) (hj : j < 12) where
  -- it is there already
  bound_there : e ≤ entry w i j → Added (Bound i j e) w w
  bound_there l = record {
    fresh = f;
    says = λ z o. (λ h. (h, λ p. omega (arith, h i j hi hj (omega arith))), λ h. h.0);
  }

  -- it is put
  bound_put : entry w i j ≤ e → Near (reach 12) e → Added (Bound i j e) w (set w (i * 12 + j) e)
  bound_put l n =
      let size = f.size in
      let here : entry (set w (i * 12 + j) e) i j ≡ e = get_or-set_same w (i * 12 + j) e 0 (omega arith) in
      record {
        fresh = record {
          size = length-set w (i * 12 + j) e ∙ size;
          near = within-set (reach 12) w (i * 12 + j) e (omega arith) f.near n;
          floored = λ m h. ⊎_elim (λ q. omega (arith, q.1, q.0, f.floored m h)) (λ q. omega (arith, q, f.floored m h)) (at (0 * 12 + m));
        };
        says = λ z o. (
          λ h. (
            λ a b ha hb. ⊎_elim
                (λ q.
                let s : a ≡ i = omega (arith, q.0) in
                let t : b ≡ j = omega (arith, q.0) in
                rw (s, t) (λ p. omega (arith, here, h i j hi hj (omega (arith, here)))))
                (λ q p. omega (arith, q, h a b ha hb (omega (arith, q))))
                (at (a * 12 + b)),
            λ p. omega (arith, h i j hi hj (omega arith)),
          ),
          λ h a b ha hb. ⊎_elim
              (λ q.
              let s : a ≡ i = omega (arith, q.0) in
              let t : b ≡ j = omega (arith, q.0) in
              rw (s, t, here) h.1)
              (λ q. rw q (h.0 a b ha hb))
              (at (a * 12 + b)),
        );
      }
    where
      at : (p : ℕ) → ((p ≡ i * 12 + j) × (get_or w p 0 ≤ get_or (set w (i * 12 + j) e) p 0)) ⊎ (get_or (set w (i * 12 + j) e) p 0 ≡ get_or w p 0)
      at p = go (eqb p (i * 12 + j)) refl
        where
          go : (t : Bool) → eqb p (i * 12 + j) ≡ t → ((p ≡ i * 12 + j) × (get_or w p 0 ≤ get_or (set w (i * 12 + j) e) p 0)) ⊎ (get_or (set w (i * 12 + j) e) p 0 ≡ get_or w p 0)
          go true q =
              let s = eqb-true p (i * 12 + j) q in
              let size = f.size in
              inl (s, rw (s, get_or-set_same w (i * 12 + j) e 0 (omega arith)) l)
          go false q = inr (get_or-set_other w (i * 12 + j) p e 0 (eqb-false p (i * 12 + j) q))

-- the higher of the two stands there
pub bound_raised : (w : List ℕ) (i j e r : ℕ) → r ≡ max (entry w i j) e → Open w → i < 12 → j < 12 → Near (reach 12) e
    → Added (Bound i j e) w (set w (i * 12 + j) r)
bound_raised w i j e r is f hi hj n =
    ⊎_elim
    (λ (l : entry w i j < e). let s : r ≡ e = omega arith in rw s (bound_put w i j e f hi hj (omega arith) n))
    (λ (l : e ≤ entry w i j).
    let s : r ≡ get_or w (i * 12 + j) 0 = omega arith in
    rw (s, set-get_or w (i * 12 + j) 0) (bound_there w i j e f hi hj l))
    (lt_or_ge (entry w i j) e)

-- how far from 0 a bound may be at first, as a number
pub near_first : (e : ℕ) → e ≤ origin + 2147483648 → origin ≤ e + 2147483648 → Near (reach 12) e
unfolding reach
near_first e a b = record { high = a; low = λ _. b }

-- ---- a difference against bounds

-- the test in plain numbers
pub record Between (l r lower upper : ℕ) : Type 0 where
  pub least : l + lower ≤ r
  pub most : (upper ≡ no_limit → ⊥) → r ≤ l + upper

pub between : (l r lower upper : ℕ) → (in_bounds no_limit l r lower upper ≡ true) ↔ Between l r lower upper
unfolding in_bounds
between l r lower upper = (
  λ h. go (leb (l + lower) r) (eqb upper no_limit) (leb r (l + upper)) refl refl refl h,
  λ h. back (eqb upper no_limit) refl h,
)
  where
    go : (p q s : Bool) → leb (l + lower) r ≡ p → eqb upper no_limit ≡ q → leb r (l + upper) ≡ s → (p && (q || s)) ≡ true → Between l r lower upper
    go true true s a b c h = record { least = leb-true _ _ a; most = λ n. absurd (n (eqb-true upper no_limit b)) }
    go true false true a b c h = record { least = leb-true _ _ a; most = λ n. leb-true _ _ c }
    go true false false a b c h = absurd (false≢true h)
    go false q s a b c h = absurd (false≢true h)

    back : (q : Bool) → eqb upper no_limit ≡ q → Between l r lower upper → (leb (l + lower) r && (eqb upper no_limit || leb r (l + upper))) ≡ true
    back true e h = rw (le-leb _ _ h.least, e)
    back false e h = rw (le-leb _ _ h.least, e, le-leb _ _ (h.most (eqb-false upper no_limit e)))

-- the two bounds that say so
module _ (left right : Term) (lower upper a : ℕ) (e : a + right.tick ≡ origin + left.tick + lower) (p : 0 < a) where
  pub apart-lower : upper ≡ no_limit → (z : ℕ → ℕ) → z 0 ≡ 0 → Bound left.slot right.slot a z ↔ Apart left right lower upper z
  apart-lower f z o =
      let t = between (time_at left z) (time_at right z) lower upper in (
        λ h. t.1 (record { least = omega (arith, h p); most = λ n. absurd (n f) }),
        λ h q. let m = (t.0 h).least in omega arith,
      )

  pub apart_both : (b : ℕ) → b + left.tick + upper ≡ origin + right.tick → 0 < b → (upper ≡ no_limit → ⊥) → (z : ℕ → ℕ) → z 0 ≡ 0
      → (Bound left.slot right.slot a z × Bound right.slot left.slot b z) ↔ Apart left right lower upper z
  apart_both b f q n z o =
      let t = between (time_at left z) (time_at right z) lower upper in (
        λ h. t.1 (record { least = omega (arith, h.0 p); most = λ _. omega (arith, h.1 q) }),
        λ h. (λ _. let m = (t.0 h).least in omega arith, λ _. omega (arith, (t.0 h).most n)),
      )

-- ---- terms and atoms

-- the term at a time of the table
abbrev pub term : ℕ → ℕ → Term
term slot tick = record { slot = slot; tick = tick }

pub is_point : (kind k : ℕ) → kind ≡ 2 → k ≤ last_tick → IsTerm kind k (term 0 k)
unfolding time_of
is_point kind k e l = record { fits = record { below = omega arith; small = l }; is = λ z o. rw (eq-eqb kind 2 e, o) (omega arith) }

pub is-end : (kind k : ℕ) → kind ≡ 3 → IsTerm kind k (term 11 0)
unfolding time_of
is-end kind k e = record {
  fits = record { below = omega arith; small = omega arith };
  is = λ z o. rw (ne_eqb kind 2 (λ q. omega arith), eq-eqb kind 3 e) (omega arith);
}

pub is-token : (kind k : ℕ) → kind < 2 → k ≤ 4 → IsTerm kind k (term (2 * k + kind + 1) 0)
unfolding time_of
is-token zero k e l = record {
  fits = record { below = omega arith; small = omega arith };
  is = λ z o. let s : 2 * k + 1 ≡ 2 * k + 0 + 1 = omega arith in rw s (omega arith);
}
is-token (suc zero) k e l = record {
  fits = record { below = omega arith; small = omega arith };
  is = λ z o. let s : 2 * k + 2 ≡ 2 * k + 1 + 1 = omega arith in rw s (omega arith);
}
is-token (suc (suc kind)) k e l = absurd (omega arith)

-- the atom says what the difference of its terms says
pub apart_atom : (b : List ℕ) (at lower upper : ℕ) (l r : Term) → (word b at ≡ 4 → ⊥) → IsTerm (word b at) (word b (at + 1)) l
    → IsTerm (word b (at + 2)) (word b (at + 3)) r → lower ≡ word b (at + 4) → upper ≡ word b (at + 5)
    → (z : ℕ → ℕ) → z 0 ≡ 0 → Apart l r lower upper z ↔ AtomTimes b at z
unfolding atom_at
apart_atom b at lower upper l r timed p q el eu z o =
    rw (p.is z o, q.is z o, ← el, ← eu) (λ h _. h, λ h. h timed)

-- "Job atoms count as met"
pub jobs_met : (b : List ℕ) (at : ℕ) → word b at ≡ 4 → (w : List ℕ) → Open w → Added (AtomTimes b at) w w
unfolding atom_at
jobs_met b at e w f = added_none w f (λ z n. absurd (n e))

-- one atom more
pub atoms_more : (b : List ℕ) (at n : ℕ) (z : ℕ → ℕ) → (AtomsTimed b at n z × AtomTimes b (at + n * 6) z) ↔ AtomsTimed b at (n + 1) z
atoms_more b at n z = (
  λ h. below_more (λ i. AtomTimes b (at + i * 6) z) n h.0 h.1,
  λ h. (λ i l. h i (omega arith), h n (omega arith)),
)

-- ---- tokens

-- the two differences that say how long token k lasts, and that the plan doesn't end before it
pub token-apart : (k least greatest : ℕ) (z : ℕ → ℕ)
    → (Apart (term (2 * k + 1) 0) (term (2 * k + 2) 0) least greatest z × Apart (term (2 * k + 2) 0) (term 11 0) 0 no_limit z)
    ↔ Lasting least greatest k (times_of z)
token-apart k least greatest z =
    let s = between (z (2 * k + 1) + 0) (z (2 * k + 2) + 0) least greatest in
    let t = between (z (2 * k + 1)) (z (2 * k + 2)) least greatest in
    let e = between (z (2 * k + 2) + 0) (z 11 + 0) 0 no_limit in (
      λ h.
          let p = s.0 h.0 in
          let q = (e.0 h.1).least in
          let l = p.least in
          record { lasts = t.1 (record { least = omega arith; most = λ n. omega (arith, p.most n) }); within = omega arith },
      λ h.
          let p = t.0 h.lasts in
          let q = h.within in
          let l = p.least in (
            s.1 (record { least = omega arith; most = λ n. omega (arith, p.most n) }),
            e.1 (record { least = omega arith; most = λ n. absurd (n refl) }),
          ),
    )

-- one name more
pub names_more : (b : List ℕ) (at n : ℕ) (z : ℕ → ℕ)
    → (NamesTimed b at n z × Named b (n + 1) (word b (at + n * 2)) (word b (at + n * 2 + 1)) z) ↔ NamesTimed b at (n + 1) z
names_more b at n z = (
  λ h. below_more (λ i. Named b (i + 1) (word b (at + i * 2)) (word b (at + i * 2 + 1)) z) n h.0 h.1,
  λ h. (λ i l. h i (omega arith), h n (omega arith)),
)

-- ---- a table that says nothing yet

-- the numbers of the table are those of one that only says that no time is below 0
abbrev Cleared : List ℕ → Type 0
Cleared w = (q : ℕ) → q < 144 → ((q < 12) × (get_or w q 0 ≡ origin)) ⊎ ((12 ≤ q) × (get_or w q 0 ≡ 0))

cleared_blank : (w : List ℕ) → length w ≡ 144 → Cleared w → Blank w
cleared_blank w size c = record {
  fresh = record {
    size = size;
    near = λ p. ⊎_elim
        (λ (l : p < 144). kind p (c p l))
        (λ (l : 144 ≤ p). rw (get_or-eq_default w 0 {n = p} (omega arith)) (record { high = omega arith; low = λ s. absurd (omega arith) }))
        (lt_or_ge p 144);
    floored = λ j l. ⊎_elim (λ q. omega (arith, q.1)) (λ q. absurd (omega (arith, q.0))) (c (0 * 12 + j) (omega arith));
  };
  says = λ z o i j hi hj p. ⊎_elim
      (λ q.
      let s : i ≡ 0 = omega (arith, q.0) in
      let t : z i ≡ 0 = ap z s ∙ o in
      omega (arith, q.1))
      (λ q. absurd (omega (arith, q.1)))
      (c (i * 12 + j) (omega arith));
}
  where
    kind : (p : ℕ) → ((p < 12) × (get_or w p 0 ≡ origin)) ⊎ ((12 ≤ p) × (get_or w p 0 ≡ 0)) → Near (reach 12) (get_or w p 0)
    kind p h =
        ⊎_elim
        (λ q. rw q.1 (record { high = omega arith; low = λ s. omega arith }))
        (λ q. rw q.1 (record { high = omega arith; low = λ s. absurd (omega arith) }))
        h

-- no bound in a whole table, and then bounds of 0 in its first twelve places
pub blank : (w : List ℕ) {a b : List ℕ} → length w ≡ 144 → b ≡ replicate (length w) 0 → a ≡ replicate (length (take 12 b)) origin → Blank (a ++ drop 12 b)
blank w {a} {b} size eb ea =
    let lb : length b ≡ 144 = ap length eb ∙ (length-replicate (length w) 0 ∙ size) in
    let ln : length (take 12 b) ≡ 12 = length-take-le 12 b (omega arith) in
    let la : length a ≡ 12 = ap length ea ∙ (length-replicate (length (take 12 b)) origin ∙ ln) in
    cleared_blank
    (a ++ drop 12 b)
    (omega (arith, length-append a (drop 12 b), length-drop 12 b))
    (λ q l.
    ⊎_elim
    (λ (h : q < 12).
    inl (
      h,
      get_or-append a (drop 12 b) 0 q (omega arith)
          ∙ (ap (λ (s : List ℕ). get_or s q 0) ea ∙ get_or-replicate (length (take 12 b)) q origin 0 (omega arith)),
    ))
    (λ (h : 12 ≤ q).
    inr (
      h,
      get_or-append_right a (drop 12 b) 12 q 0 la h
          ∙ (get_or-drop 12 b (q - 12) 0
          ∙ (ap (λ (s : List ℕ). get_or s (12 + (q - 12)) 0) eb ∙ get_or-replicate (length w) (12 + (q - 12)) 0 0 (omega arith))),
    ))
    (lt_or_ge q 12))

-- ---- the same of numbers that were read

pub kind_as : {k m x y : ℕ} → k ≡ x → m ≡ y → KindFits x y → KindFits k m
kind_as p q h = rw (p, q) h

pub limits_as : {k m x y : ℕ} → k ≡ x → m ≡ y → LimitsFit x y → LimitsFit k m
limits_as p q h = rw (p, q) h

pub is_term_as : {k m x y : ℕ} {t : Term} → k ≡ x → m ≡ y → IsTerm k m t → IsTerm x y t
is_term_as p q h = rw (p, q) at h

pub lasting_as : {j k m x y : ℕ} {w v : List ℕ} → k ≡ x → m ≡ y
    → Added (λ z. Lasting k m j (times_of z)) w v → Added (λ z. Lasting x y j (times_of z)) w v
lasting_as p q h = rw (p, q) at h
