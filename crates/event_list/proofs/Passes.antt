-- A pass over the words of a list reads the line from its events; and the steps of such a pass, for any words. Assumes nothing.
use mathlib.Core.Path.{◌≡◌, refl, sym, ap, ◌∙◌}
use mathlib.Core.Bool.{Bool, true, false, cond}
use mathlib.Core.List.{List, [], ◌∷◌, ◌++◌, map, flat_map, map-append, append-nil}
use Prim.Native.Nat.{ℕ, zero, suc, ◌+◌, ◌-◌, ◌*◌, ◌≤◌, ◌<◌}
use native.Mathlib.Nat.{add-zero, zero-mul, suc-mul}
use native.Mathlib.Decide.{dec_lt}
use native.Mathlib.Omega.{arith}
use lib.Dec.{eqb}
use lib.ListN.{length, get_or, length-append, drop_of_length-le}
use lib.Seq.{get_or-drop}
use borrow.Author.Tests.{le-leb, lt-leb, ne_eqb}
use Rattle.words.specs.Words.{word}
use Rattle.words.specs.Runs.{Stands}
use Rattle.words.proofs.Runs.{length_flat, stands-first, stands_second, stands-move}
use Rattle.event_list.specs.Events.{PlanToken, Action, Event, Line, plan_token}
use Rattle.event_list.specs.Words.{action_width, action_words, event_words, list_words}
use Rattle.event_list.specs.Reading.{action_job, ends_here, add_ticks, next_place, next_left, closes, next_ticks, closed, read_from, read_line}
use Rattle.event_list.proofs.Back.{is_end, tokens_in, ticks_after, line_from}

-- ---- the steps, for any words

module _ (w : List ℕ) (x : ℕ) where
  -- past the end nothing is read
  pub read_over : (n place left ticks : ℕ) → length w ≤ place → read_from w x n place left ticks ≡ []
  unfolding read_from
  read_over zero place left ticks h = refl
  read_over (suc n) place left ticks h = rw (le-leb (length w) place h)

  -- otherwise a step
  pub read_on : (n place left ticks : ℕ) → place < length w
      → read_from w x (suc n) place left ticks ≡ closed w x place left ticks ++ read_from w x n (next_place w place left) (next_left w place left)
      (next_ticks w x place left ticks)
  unfolding read_from
  read_on n place left ticks h = rw (lt-leb (length w) place h)

  -- where an event begins
  pub read-event : (n place ticks : ℕ) → place < length w
      → read_from w x (suc n) place 0 ticks ≡ read_from w x n (place + 2) (word w (place + 1)) (add_ticks ticks (word w place))
  unfolding next_place next_left next_ticks closed closes
  read-event n place ticks h = read_on n place 0 ticks h

  -- at an action
  pub read-action : (n place left ticks : ℕ) → place < length w
      → read_from w x (suc n) place (suc left) ticks
      ≡ cond (ends_here w x place) (plan_token (word w (place + 1)) ticks (action_job w place) ∷ []) []
      ++ read_from w x n (place + action_width (word w 0)) left (cond (ends_here w x place) 0 ticks)
  unfolding next_place next_left next_ticks closed closes
  read-action n place left ticks h =
      let one : suc left - 1 ≡ left = omega arith in
      read_on n place (suc left) ticks h ∙ rw (ne_eqb (suc left) 0 (λ z. omega (arith, z)), one)

-- ---- words that stand

-- word i of the words that stand at a place
stood : {b : List ℕ} {at : ℕ} {ws : List ℕ} (s : Stands b at ws) (i : ℕ) → word b (at + i) ≡ get_or (ws ++ s.rest) i 0
stood {b} {at} s i = sym (get_or-drop at b i 0) ∙ ap (λ (l : List ℕ). get_or l i 0) s.here

stood_first : {b : List ℕ} {at : ℕ} {ws : List ℕ} (s : Stands b at ws) → word b at ≡ get_or (ws ++ s.rest) 0 0
stood_first {b} {at} s = ap (word b) (sym (add-zero at)) ∙ stood s 0

-- a word that stands at a place is inside
inside : {b : List ℕ} {at y : ℕ} {ws : List ℕ} → Stands b at (y ∷ ws) → at < length b
inside {b} {at} {y} {ws} s =
    elim (dec_lt at (length b)) [
      | yes l ↦ l
      | no n ↦ let e : 0 ≡ suc (length (ws ++ s.rest)) = ap length (sym (drop_of_length-le b {i = at} (omega arith))
          ∙ s.here) in absurd (omega (arith, e))
    ]

-- an action has so many words
pub action-long : (e : ℕ) (a : Action) → length (action_words e a) ≡ action_width e
unfolding action_words action_width
action-long e a = by (eqb e 2)
  where
    by : (b : Bool) → length (a.line ∷ a.value ∷ a.kind ∷ cond b (a.job ∷ []) []) ≡ cond b 4 3
    by true = refl
    by false = refl

pub width_some : (e : ℕ) → (3 ≤ action_width e) × (action_width e ≤ 4)
unfolding action_width
width_some e = either (eqb e 2)
  where
    either : (b : Bool) → (3 ≤ cond b 4 3) × (cond b 4 3 ≤ 4)
    either true = (omega arith, omega arith)
    either false = (omega arith, omega arith)

-- ---- a list's words

-- a token of a list whose edition isn't 2 has job 0
unfoldable pub forget : ℕ → PlanToken → PlanToken
forget e t = plan_token t.value t.duration (cond (eqb e 2) t.job 0)

module _ (w : List ℕ) (x : ℕ) where
  abbrev e : ℕ
  e = word w 0

  -- the action that stands at a place
  module _ (a : Action) (k : ℕ) (s : Stands w k (action_words e a)) where
    ends-here : ends_here w x k ≡ is_end x a
    unfolding ends_here is_end action_words
    ends-here = rw (stood_first s, stood s 2)

    job-here : action_job w k ≡ cond (eqb e 2) a.job 0
    unfolding action_job action_words
    job-here = by (eqb e 2) (stood s 3)
      where
        by : (b : Bool) → word w (k + 3) ≡ get_or ((a.line ∷ a.value ∷ a.kind ∷ cond b (a.job ∷ []) []) ++ s.rest) 3 0
            → cond b (word w (k + 3)) 0 ≡ cond b a.job 0
        by true h = h
        by false h = refl

    value_here : word w (k + 1) ≡ a.value
    unfolding action_words
    value_here = stood s 1

    place_inside : k < length w
    unfolding action_words
    place_inside = inside s

  -- the actions of an event, and then R
  actions_read : (l : List Action) (k n r : ℕ) (R : Line) → Stands w k (flat_map (action_words e) l) → length w ≤ k + n
      → ((m : ℕ) → length w ≤ k + length l * action_width e + m → read_from w x m (k + length l * action_width e) 0 (ticks_after x r l) ≡ R)
      → read_from w x n k (length l) r ≡ map (forget e) (tokens_in x r l) ++ R
  unfolding tokens_in ticks_after flat_map forget
  actions_read [] k n r R s enough then =
      let z : k + 0 * action_width e ≡ k = omega (arith, zero-mul (action_width e)) in
      ap (λ (i : ℕ). read_from w x n i 0 r) (sym z) ∙ then n (omega (arith, z, enough))
  actions_read (a ∷ l) k zero r R s enough then =
      let one : Stands w k (action_words e a) = stands-first (action_words e a) (flat_map (action_words e) l) s in
      absurd (omega (arith, place_inside a k one, enough))
  actions_read (a ∷ l) k (suc n) r R s enough then =
      let one : Stands w k (action_words e a) = stands-first (action_words e a) (flat_map (action_words e) l) s in
      let next : Stands w (k + action_width e) (flat_map (action_words e) l) = stands_second (action_width e) (action_words e a)
      (flat_map (action_words e) l) (action-long e a) s in
      let wide : 3 ≤ action_width e = (width_some e).0 in
      let far : k + action_width e + length l * action_width e ≡ k + suc (length l) * action_width e = omega
      (arith, suc-mul (length l) (action_width e)) in
      let r2 : ℕ = cond (is_end x a) 0 r in
      let ih : read_from w x n (k + action_width e) (length l) r2 ≡ map (forget e) (tokens_in x r2 l) ++ R =
      actions_read l (k + action_width e) n r2 R next (omega (arith, wide, enough))
      (λ m h. ap (λ (i : ℕ). read_from w x m i 0 (ticks_after x r2 l)) far ∙ then m (omega (arith, far, h))) in
      read-action w x n k (length l) r (place_inside a k one)
      ∙ rw (ends-here a k one, job-here a k one, value_here a k one) (by (is_end x a) ih)
    where
      by : (b : Bool) → read_from w x n (k + action_width e) (length l) (cond b 0 r) ≡ map (forget e) (tokens_in x (cond b 0 r) l) ++ R
          → cond b (plan_token a.value r (cond (eqb e 2) a.job 0) ∷ []) [] ++ read_from w x n (k + action_width e) (length l) (cond b 0 r)
          ≡ map (forget e) (cond b (plan_token a.value r a.job ∷ tokens_in x 0 l) (tokens_in x r l)) ++ R
      by true h = rw h
      by false h = h

  -- all events up to the list's end
  events_read : (es : List Event) (k n r : ℕ) → Stands w k (flat_map (event_words e) es) → length w ≤ k + n
      → k + length (flat_map (event_words e) es) ≡ length w
      → read_from w x n k 0 r ≡ map (forget e) (line_from x r es)
  unfolding line_from flat_map event_words
  events_read [] k n r s enough whole = read_over w x n k 0 r (omega (arith, whole))
  events_read (v ∷ es) k zero r s enough whole =
      let one : Stands w k (event_words e v) = stands-first (event_words e v) (flat_map (event_words e) es) s in
      absurd (omega (arith, inside one, enough))
  events_read (v ∷ es) k (suc n) r s enough whole =
      let one : Stands w k (event_words e v) = stands-first (event_words e v) (flat_map (event_words e) es) s in
      let words : List ℕ = flat_map (action_words e) v.actions in
      let many : length words ≡ length v.actions * action_width e = length_flat (action_width e) (action_words e) (action-long e) v.actions in
      let size : length (event_words e v) ≡ 2 + length v.actions * action_width e = omega (arith, many) in
      let inner : Stands w (k + 2) words = stands_second 2 (v.delay ∷ length v.actions ∷ []) words refl one in
      let next : Stands w (k + 2 + length v.actions * action_width e) (flat_map (event_words e) es) =
      stands-move (omega arith) (stands_second (2 + length v.actions * action_width e) (event_words e v) (flat_map (event_words e) es) size s) in
      let both = length-append (event_words e v) (flat_map (event_words e) es) in
      let now : ℕ = add_ticks r v.delay in
      let first : word w k ≡ v.delay = stood_first one in
      let second : word w (k + 1) ≡ length v.actions = stood one 1 in
      read-event w x n k r (inside one)
      ∙ rw (first, second)
      (actions_read v.actions (k + 2) n now (map (forget e) (line_from x (ticks_after x now v.actions) es)) inner (omega (arith, enough))
      (λ m h. events_read es (k + 2 + length v.actions * action_width e) m (ticks_after x now v.actions) next h
      (omega (arith, size, both, whole)))
      ∙ sym (map-append (forget e) (tokens_in x now v.actions) (line_from x (ticks_after x now v.actions) es)))

-- THE LAW: a line read from the words of events is that line of the events
pub line_read : (e : ℕ) (es : List Event) (x : ℕ) → read_line (list_words e es) x ≡ map (forget e) (line_from x 0 es)
unfolding read_line list_words
line_read e es x =
    let ws : List ℕ = flat_map (event_words e) es in
    let long : 3 + length ws ≡ length (list_words e es) = omega arith in
    events_read (list_words e es) x es 3 (length (list_words e es)) 0 (record { rest = []; here = sym (append-nil ws) }) (omega arith) long
