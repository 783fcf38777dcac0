-- The times of events that have the shape of a list's: they rise, each event's actions are those of its time, and where there are actions there
-- is an event. And what one of a list means where lists are joined. Assumes nothing.
use mathlib.Core.Path.{◌≡◌, refl, sym, ap, ◌∙◌}
use mathlib.Core.Bool.{Bool, true, false, cond}
use mathlib.Core.Logic.{◌⊎◌, inl, inr, ⊎_elim}
use mathlib.Core.List.{List, [], ◌∷◌, ◌++◌, flat_map}
use Prim.Native.Nat.{ℕ, zero, suc, ◌+◌, ◌-◌, ◌≤◌, ◌<◌}
use native.Mathlib.Nat.{add-zero}
use native.Mathlib.Decide.{dec_lt, ℕ_discrete}
use native.Mathlib.Omega.{arith}
use lib.Dec.{ltb, eqb}
use lib.ListN.{length, get_or}
use borrow.Author.Tests.{ltb-false, eqb-true}
use Rattle.words.specs.Lists.{All}
use Rattle.event_list.specs.Events.{Action, Event, by_line}
use Rattle.event_list.specs.Moments.{actions_at, Later, Shaped}
use Rattle.event_list.proofs.Moments.{says_then, says-after}
use Rattle.events_claims.specs.Sequences.{Has, actions_of, delays, time_at}
use Rattle.events_claims.specs.Times.{Numbered, Part, EventAt}

-- ---- one of a list

module _ {A : Type 0} (a : A) where
  pub has_left : (xs ys : List A) → Has a xs → Has a (xs ++ ys)
  has_left [] ys h = absurd h
  has_left (x ∷ xs) ys (inl e) = inl e
  has_left (x ∷ xs) ys (inr h) = inr (has_left xs ys h)

  pub has_right : (xs ys : List A) → Has a ys → Has a (xs ++ ys)
  has_right [] ys h = h
  has_right (x ∷ xs) ys h = inr (has_right xs ys h)

  pub has_either : (xs ys : List A) → Has a (xs ++ ys) → Has a xs ⊎ Has a ys
  has_either [] ys h = inr h
  has_either (x ∷ xs) ys (inl e) = inl (inl e)
  has_either (x ∷ xs) ys (inr h) = ⊎_elim (λ k. inl (inr k)) inr (has_either xs ys h)

  -- by its number
  pub has_at : (xs : List A) (i : ℕ) (d : A) → i < length xs → get_or xs i d ≡ a → Has a xs
  has_at [] i d l e = absurd (omega arith)
  has_at (x ∷ xs) zero d l e = inl (sym e)
  has_at (x ∷ xs) (suc i) d l e = inr (has_at xs i d (omega arith) e)

pub numbered : {A : Type 0} (d a : A) (xs : List A) → Has a xs → Numbered d a xs
numbered d a [] h = absurd h
numbered d a (x ∷ xs) (inl e) = record { number = 0; below = omega arith; is = sym e }
numbered d a (x ∷ xs) (inr h) = let r = numbered d a xs h in record { number = suc r.number; below = omega (arith, r.below); is = r.is }

-- of lines in their turn
pub line-part : {A : Type 0} (d : A) (f : ℕ → A → List Action) (k : ℕ) (a : Action) (xs : List A) → Has a (by_line f k xs) → Part d f k a xs
unfolding by_line
line-part d f k a [] h = absurd h
line-part d f k a (x ∷ xs) h =
    ⊎_elim (λ q. record { number = 0; below = omega arith; has = rw (add-zero k) q })
    (λ q.
    let r = line-part d f (k + 1) a xs q in
    let e : k + 1 + r.number ≡ k + suc r.number = omega arith in
    record { number = suc r.number; below = omega (arith, r.below); has = rw e at r.has })
    (has_either a (f k x) (by_line f (k + 1) xs) h)

pub part-line : {A : Type 0} (d : A) (f : ℕ → A → List Action) (k : ℕ) (a : Action) (xs : List A) (i : ℕ) → i < length xs
    → Has a (f (k + i) (get_or xs i d)) → Has a (by_line f k xs)
unfolding by_line
part-line d f k a [] i l h = absurd (omega arith)
part-line d f k a (x ∷ xs) zero l h = has_left a (f k x) (by_line f (k + 1) xs) (rw (add-zero k) at h)
part-line d f k a (x ∷ xs) (suc i) l h =
    let e : k + suc i ≡ k + 1 + i = omega arith in
    has_right a (f k x) (by_line f (k + 1) xs) (part-line d f (k + 1) a xs i (omega arith) (rw e at h))

-- of the elements of a list
pub flat_part : {A B : Type 0} (d : A) (f : A → List B) (b : B) (xs : List A) → Has b (flat_map f xs) → Part d (λ i x. f x) 0 b xs
unfolding flat_map
flat_part d f b [] h = absurd h
flat_part d f b (x ∷ xs) h =
    ⊎_elim (λ q. record { number = 0; below = omega arith; has = q })
    (λ q. let r = flat_part d f b xs q in record { number = suc r.number; below = omega (arith, r.below); has = r.has })
    (has_either b (f x) (flat_map f xs) h)

pub part_flat : {A B : Type 0} (d : A) (f : A → List B) (b : B) (xs : List A) (i : ℕ) → i < length xs → Has b (f (get_or xs i d)) → Has b (flat_map f xs)
unfolding flat_map
part_flat d f b [] i l h = absurd (omega arith)
part_flat d f b (x ∷ xs) zero l h = has_left b (f x) (flat_map f xs) h
part_flat d f b (x ∷ xs) (suc i) l h = has_right b (f x) (flat_map f xs) (part_flat d f b xs i (omega arith) h)

-- one of an optional one
pub has_cond : {A : Type 0} (t : Bool) (a x : A) → Has a (cond t (x ∷ []) []) → (t ≡ true) × (a ≡ x)
has_cond true a x (inl e) = (refl, e)
has_cond true a x (inr h) = absurd h
has_cond false a x h = absurd h

-- ---- times

-- later events are later
delays-pos : (es : List Event) (i : ℕ) → All Later es → i < length es → 0 < delays es (suc i)
unfolding delays
delays-pos [] i h l = absurd (omega arith)
delays-pos (e ∷ es) i h l = omega (arith, h.0.delay)

delays_rise : (es : List Event) (i j : ℕ) → All Later es → i < j → j ≤ length es → delays es i < delays es j
unfolding delays
delays_rise es i zero h l m = absurd (omega arith)
delays_rise [] i (suc j) h l m = absurd (omega arith)
delays_rise (e ∷ es) zero (suc j) h l m = omega (arith, h.0.delay)
delays_rise (e ∷ es) (suc i) (suc j) h l m = let r = delays_rise es i j h.1 (omega arith) (omega arith) in omega (arith, r)

-- the actions of a time
says_at : (es : List Event) (i : ℕ) → All Later es → i < length es → actions_at (delays es (suc i)) es ≡ actions_of es i
unfolding delays
says_at [] i h l = absurd (omega arith)
says_at (e ∷ es) zero h l = ap (λ (T : ℕ). actions_at T (e ∷ es)) (add-zero e.delay) ∙ says_then e es
says_at (e ∷ es) (suc i) h l = says-after e es (delays es (suc i)) (delays-pos es i h.1 (omega arith)) ∙ says_at es i h.1 (omega arith)

record LaterAt (es : List Event) (T : ℕ) : Type 0 where
  index : ℕ
  below : index < length es
  time : delays es (suc index) ≡ T

later-event : (es : List Event) (T : ℕ) (a : Action) → All Later es → Has a (actions_at T es) → LaterAt es T
unfolding delays actions_at
later-event [] T a h k = absurd k
later-event (e ∷ es) T a h k = by (ltb T e.delay) (eqb T e.delay) refl refl k (λ q. later-event es (T - e.delay) a h.1 q)
  where
    by : (u v : Bool) → ltb T e.delay ≡ u → eqb T e.delay ≡ v → Has a (cond u [] (cond v e.actions (actions_at (T - e.delay) es)))
        → (Has a (actions_at (T - e.delay) es) → LaterAt es (T - e.delay)) → LaterAt (e ∷ es) T
    by true v x y q ih = absurd q
    by false true x y q ih = record { index = 0; below = omega arith; time = let z = eqb-true T e.delay y in omega (arith, z) }
    by false false x y q ih =
        let r = ih q in
        let z = ltb-false T e.delay x in
        record { index = suc r.index; below = omega (arith, r.below); time = omega (arith, r.time, z) }

-- ---- of a whole list

module _ (es : List Event) (shaped : Shaped es) where
  pub times_rise : (i j : ℕ) → i < j → j < length es → time_at es i < time_at es j
  unfolding time_at Shaped
  times_rise i j l m = by es shaped m
    where
      by : (es : List Event) → Shaped es → j < length es → time_at es i < time_at es j
      by [] s m = absurd (omega arith)
      by (e ∷ es) s m = delays_rise es i j s.2 l (omega arith)

  -- so earlier times are earlier events
  pub times_order : (i j : ℕ) → i < length es → time_at es i < time_at es j → i < j
  times_order i j l t =
      elim (dec_lt i j) [
        | yes h ↦ h
        | no h ↦ elim (ℕ_discrete i j) [
          | yes e ↦ absurd (omega (arith, ap (time_at es) e))
          | no n ↦ let r = times_rise j i (omega arith) l in absurd (omega (arith, r))
        ]
      ]

  pub times-same : (i j : ℕ) → i < length es → j < length es → time_at es i ≡ time_at es j → i ≡ j
  times-same i j l m e =
      elim (dec_lt i j) [
        | yes h ↦ let r = times_rise i j h m in absurd (omega (arith, r))
        | no h ↦ elim (dec_lt j i) [ yes k ↦ let r = times_rise j i k l in absurd (omega (arith, r)) | no k ↦ omega arith ]
      ]

  -- the first is at 0
  pub time_first : time_at es 0 ≡ 0
  unfolding time_at delays
  time_first = by es
    where
      by : (es : List Event) → time_at es 0 ≡ 0
      by [] = refl
      by (e ∷ es) = refl

  pub time_says : (i : ℕ) → i < length es → actions_at (time_at es i) es ≡ actions_of es i
  unfolding time_at Shaped delays
  time_says i l = by es shaped i l
    where
      zeroth : (e : Event) (es : List Event) → e.delay ≡ 0 → actions_at 0 (e ∷ es) ≡ e.actions
      zeroth e es d = ap (λ (T : ℕ). actions_at T (e ∷ es)) (sym d) ∙ says_then e es

      by : (es : List Event) → Shaped es → (i : ℕ) → i < length es → actions_at (time_at es i) es ≡ actions_of es i
      by [] s i l = absurd (omega arith)
      by (e ∷ es) s zero l = zeroth e es s.0
      by (e ∷ es) s (suc i) l =
          let d : delays es (suc i) ≡ e.delay + delays es (suc i) = omega (arith, s.0) in
          ap (λ (T : ℕ). actions_at T (e ∷ es)) d
          ∙ says-after e es (delays es (suc i)) (delays-pos es i s.2 (omega arith)) ∙ says_at es i s.2 (omega arith)

  -- where there is an action there is an event
  pub event-at : (T : ℕ) (a : Action) → Has a (actions_at T es) → EventAt es T
  unfolding time_at Shaped delays actions_at
  event-at T a h = by es shaped h
    where
      by : (es : List Event) → Shaped es → Has a (actions_at T es) → EventAt es T
      by [] s h = absurd h
      by (e ∷ es) s h = on (ltb T e.delay) (eqb T e.delay) refl refl h
        where
          on : (u v : Bool) → ltb T e.delay ≡ u → eqb T e.delay ≡ v → Has a (cond u [] (cond v e.actions (actions_at (T - e.delay) es)))
              → EventAt (e ∷ es) T
          on true v x y q = absurd q
          on false true x y q = record { index = 0; below = omega arith; time = let z = eqb-true T e.delay y in omega (arith, z, s.0) }
          on false false x y q =
              let r = later-event es (T - e.delay) a s.2 q in
              record { index = suc r.index; below = omega (arith, r.below); time = omega (arith, r.time, s.0) }
