-- Laws of the tokens along a line: start and end grow, so the first of some tokens is the earliest, and one that starts or ends later than
-- the first is one of the others; and of passing over tokens of other values. Assumes nothing.
use mathlib.Core.Path.{◌≡◌, refl, ap, ◌∙◌}
use mathlib.Core.Logic.{◌⊎◌, inl, inr, ⊎_elim}
use mathlib.Core.List.{List, [], ◌∷◌}
use Prim.Native.Nat.{ℕ, zero, suc, ◌+◌, ◌-◌, ◌≤◌, ◌<◌}
use native.Mathlib.Numerals.{sub-one}
use native.Mathlib.Omega.{arith}
use lib.ListN.{length, get_or}
use Rattle.words.specs.Words.{word}
use Rattle.lines.specs.declared.Token.{Token}
use Rattle.lines.specs.Lines.{token, token_width, job_at, tokens_from}
use Rattle.lines.proofs.Width.{width_few}
use Rattle.choice.specs.declared.Tokens.{Tokens}
use Rattle.choice.specs.Exists.{Among}
use Rattle.choice.proofs.Exists.{among_first, among_later}
use Rattle.marks.specs.Marked.{Skipped, Here, Nowhere}

-- ---- the tokens along a line

pub among_none : {A : Type 0} {x : A} → Among x [] → ⊥
among_none m = omega (arith, m.within)

pub among_cases : {A : Type 0} {x y : A} {ys : List A} → Among x (y ∷ ys) → (y ≡ x) ⊎ Among x ys
among_cases {A} {x} {y} {ys} m = go m.index m.within m.here
  where
    go : (i : ℕ) → i < suc (length ys) → get_or (y ∷ ys) i x ≡ x → (y ≡ x) ⊎ Among x ys
    go zero l h = inl h
    go (suc i) l h = inr (record { index = i; within = omega arith; here = h })

module _ (p : List ℕ) (x : Token) where
  -- none starts or ends before the first starts
  tokens_grow : (count place start : ℕ) → Among x (tokens_from p count place start) → (start ≤ x.start.tick) × (start ≤ x.end.tick)
  unfolding tokens_from
  tokens_grow zero place start m = absurd (among_none m)
  tokens_grow (suc count) place start m =
      ⊎_elim
      (λ h. (omega (arith, ap (λ (z : Token). z.start.tick) h), omega (arith, ap (λ (z : Token). z.end.tick) h)))
      (λ q. let g = tokens_grow count (place + token_width p) (start + word p (place + 1)) q in (omega arith, omega arith))
      (among_cases m)

  -- the first, or one of the others
  pub head_tail : (count place start : ℕ) → (count ≡ 0 → ⊥) → Among x (tokens_from p count place start)
      → (token (word p place) start (start + word p (place + 1)) (job_at p place) ≡ x) ⊎ Among x (tokens_from p (count - 1) (place + token_width p) (start + word p (place + 1)))
  unfolding tokens_from
  head_tail zero place start h m = absurd (h refl)
  head_tail (suc count) place start h m = ⊎_elim (λ q. inl q) (λ q. inr (rw sub-one q)) (among_cases m)

  pub tail_back : (count place start : ℕ) → (count ≡ 0 → ⊥) → Among x (tokens_from p (count - 1) (place + token_width p) (start + word p (place + 1)))
      → Among x (tokens_from p count place start)
  unfolding tokens_from
  tail_back zero place start h m = absurd (h refl)
  tail_back (suc count) place start h m = among_later _ (rw sub-one at m)

  pub head_there : (count place start : ℕ) → (count ≡ 0 → ⊥) → token (word p place) start (start + word p (place + 1)) (job_at p place) ≡ x → Among x (tokens_from p count place start)
  unfolding tokens_from
  head_there zero place start h q = absurd (h refl)
  head_there (suc count) place start h q = rw (← q) (among_first _ _)

  -- none starts before the first, and none ends before it
  pub first-grow : (count place start : ℕ) → (count ≡ 0 → ⊥) → Among x (tokens_from p count place start)
      → (start ≤ x.start.tick) × (start + word p (place + 1) ≤ x.end.tick)
  first-grow count place start h m =
      ⊎_elim
      (λ q. (omega (arith, ap (λ (z : Token). z.start.tick) q), omega (arith, ap (λ (z : Token). z.end.tick) q)))
      (λ q. let g = tokens_grow (count - 1) (place + token_width p) (start + word p (place + 1)) q in (omega arith, omega arith))
      (head_tail count place start h m)

  -- one that starts or ends later than the first is one of the others
  pub first-passed : (count place start : ℕ) → (count ≡ 0 → ⊥) → Among x (tokens_from p count place start)
      → (start < x.start.tick) ⊎ (start + word p (place + 1) < x.end.tick)
      → Among x (tokens_from p (count - 1) (place + token_width p) (start + word p (place + 1)))
  first-passed count place start h m l =
      ⊎_elim
      (λ q. absurd (⊎_elim (λ a. omega (arith, ap (λ (z : Token). z.start.tick) q)) (λ a. omega (arith, ap (λ (z : Token). z.end.tick) q)) l))
      (λ q. q)
      (head_tail count place start h m)

-- ---- the next token of a value

module _ (p : List ℕ) (w : Tokens) where
  pub skipped_none : Skipped p w w.count w.place w.start
  skipped_none = record { lost = λ x m h. m; back = λ x m. m; fewer = omega arith; room = omega arith; small = omega arith }

  -- one of another value is passed over
  pub skipped_next : (left at from d v : ℕ) → w.width ≡ token_width p → (left ≡ 0 → ⊥) → d ≡ word p (at + 1) → v ≡ word p at → (v ≡ w.value → ⊥) → d < 4294967296
      → Skipped p w left at from → Skipped p w (left - 1) (at + w.width) (from + d)
  skipped_next left at from d v hw h hd hv f l s =
      rw (hd, hw)
      (record {
        lost =
            λ x m q. ⊎_elim (λ g. absurd (f (hv ∙ ap (λ (z : Token). z.value) g ∙ q))) (λ g. g) (head_tail p x left at from h (s.lost x m q));
        back = λ x m. s.back x (tail_back p x left at from h m);
        fewer = omega (arith, s.fewer);
        room = omega (arith, s.room, (width_few p).1);
        small = omega (arith, s.small, hd);
      })

  -- with i passed over before, the one at the place is
  pub skipped_on : (n i at from d v : ℕ) → w.width ≡ token_width p → i < n → d ≡ word p (at + 1) → v ≡ word p at → (v ≡ w.value → ⊥)
      → d < 4294967296 → Skipped p w (n - i) at from → Skipped p w (n - (i + 1)) (at + w.width) (from + d)
  skipped_on n i at from d v hw h hd hv f l s =
      let left : (n - i) - 1 ≡ n - (i + 1) = omega arith in
      rw (← left) (skipped_next (n - i) at from d v hw (λ q. omega arith) hd hv f l s)

  pub sought_here : (left at from d : ℕ) → (left ≡ 0 → ⊥) → d ≡ word p (at + 1) → Skipped p w left at from
      → Here p w (record { left = left; place = at; start = from; end = from + d })
  sought_here left at from d some hd s = record { skipped = s; some = some; end = ap (λ (z : ℕ). from + z) hd }

  pub sought_none : (left at from : ℕ) → left ≡ 0 → Skipped p w left at from → Nowhere p w
  unfolding tokens_from
  sought_none left at from h s = record { nowhere = λ x m q. among_none (rw h at (s.lost x m q)) }
