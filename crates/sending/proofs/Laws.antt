-- What happens on a line, in words. Assumes nothing.
use mathlib.Core.Path.{◌≡◌, sym, ap, ◌∙◌}
use mathlib.Core.Bool.{Bool, true, false}
use mathlib.Core.List.{List, [], ◌∷◌, ◌++◌, flat_map, append-nil}
use Prim.Native.Nat.{ℕ, suc, ◌+◌, ◌-◌, ◌<◌, ◌≤◌}
use native.Mathlib.Omega.{arith}
use lib.ListN.{length, get_or}
use borrow.Author.Tests.{eq-eqb, ne_eqb}
use Rattle.words.specs.Words.{word}
use Rattle.lines.specs.Lines.{job_at}
use Rattle.event_list.specs.Events.{Line, Action, action, event, start_on, change_on, by_line}
use Rattle.event_list.specs.Words.{action_words, event_words}
use Rattle.sink.specs.declared.Sink.{Sink}
use Rattle.sink.specs.Sinks.{SendsTo}
use Rattle.sweep.specs.declared.Stand.{Stand}
use Rattle.moments.specs.State.{nothing, line_left, lines_left, behind, happens}
use Rattle.moments.proofs.Laws.{left-none, left-some, by_more, by-none}
use Rattle.sink.proofs.Lists.{flat_append}
use Rattle.sink.proofs.Sends.{Sending, sending_none, sending_more, sending_all, sends_as}

some : (n : ℕ) → (n ≡ 0 → ⊥) → n ≡ suc (n - 1)
some n h = omega (arith, h)

module _ (p : List ℕ) where
  -- the words of actions, and of the token at a place
  abbrev all : List Action → List ℕ
  all xs = flat_map (action_words (word p 0)) xs

  abbrev at : ℕ → ℕ → ℕ → List ℕ
  at v place kind = action_words (word p 0) (action v (word p place) kind (job_at p place))

  module _ (l : Stand) (v : ℕ) where
    pub start_none : l.left ≡ 0 → [] ≡ all (start_on v (line_left p l))
    unfolding start_on flat_map
    start_none h = rw (left-none p l h)

    pub start-some : (l.left ≡ 0 → ⊥) → at v l.place 1 ≡ all (start_on v (line_left p l))
    unfolding start_on flat_map
    start-some h = rw (left-some p l _ (some _ h)) (sym (append-nil _))

    module _ (first : Bool) (m : ℕ) where
      pub on_first : first ≡ true → all (start_on v (line_left p l)) ≡ all (happens first m v (line_left p l))
      unfolding happens
      on_first e = rw e

      pub on_none : first ≡ false → l.left ≡ 0 → [] ≡ all (happens first m v (line_left p l))
      unfolding happens change_on flat_map
      on_none e h = rw (e, left-none p l h)

      pub on_apart : first ≡ false → (l.left ≡ 0 → ⊥) → (l.run ≡ m → ⊥) → [] ≡ all (happens first m v (line_left p l))
      unfolding happens change_on flat_map
      on_apart e h n = rw (e, left-some p l _ (some _ h), ne_eqb _ _ n)

      pub on_end : first ≡ false → (l.left ≡ 0 → ⊥) → l.run ≡ m
          → at v l.place 0 ++ all (start_on v (behind (line_left p l))) ≡ all (happens first m v (line_left p l))
      unfolding happens change_on flat_map behind
      on_end e h r = rw (e, left-some p l _ (some _ h), eq-eqb _ _ r)

-- ---- all lines

module _ (p : List ℕ) (s : List Stand) (n : ℕ) (f : ℕ → Line → List Action) where
  -- what happens on the lines from v on
  unfoldable pub actions_from : ℕ → List ℕ
  actions_from v = flat_map (action_words (word p 0)) (by_line f v (lines_left p s (n - v) v))

  from_more : (v : ℕ) → v < n → actions_from v ≡ flat_map (action_words (word p 0)) (f v (line_left p (get_or s v nothing))) ++ actions_from (v + 1)
  unfolding actions_from
  from_more v h =
      ap (flat_map (action_words (word p 0))) (by_more p s f n v h)
      ∙ flat_append (action_words (word p 0)) (f v (line_left p (get_or s v nothing))) (by_line f (v + 1) (lines_left p s (n - (v + 1)) (v + 1)))

  from-none : (v : ℕ) → n ≤ v → actions_from v ≡ []
  unfolding actions_from flat_map
  from-none v h = rw (by-none p s f n v h)

  from_all : actions_from 0 ≡ flat_map (action_words (word p 0)) (by_line f 0 (lines_left p s n 0))
  unfolding actions_from
  from_all = let e : n - 0 ≡ n = omega arith in rw e

-- what was sent, and what happens on the lines from v on, is all
pub record Lined (before now : Sink) (p : List ℕ) (s : List Stand) (n : ℕ) (f : ℕ → Line → List Action) (v : ℕ) : Type 0 where
  pub so : Sending before now (actions_from p s n f v) (actions_from p s n f 0)

pub lines_start : (to : Sink) (p : List ℕ) (s : List Stand) (n : ℕ) (f : ℕ → Line → List Action) → Lined to to p s n f 0
lines_start to p s n f = record { so = sending_none to (actions_from p s n f 0) }

pub lines_step : {before now after : Sink} {p : List ℕ} {s : List Stand} {n v : ℕ} {f : ℕ → Line → List Action} → Lined before now p s n f v → v < n
    → SendsTo now after (flat_map (action_words (word p 0)) (f v (line_left p (get_or s v nothing)))) → Lined before after p s n f (v + 1)
lines_step {p = p} {s = s} {n = n} {v = v} {f = f} h l q = record { so = sending_more h.so (from_more p s n f v l) q }

pub lines_end : {before now : Sink} {p : List ℕ} {s : List Stand} {n v : ℕ} {f : ℕ → Line → List Action} → Lined before now p s n f v → n ≤ v
    → SendsTo before now (flat_map (action_words (word p 0)) (by_line f 0 (lines_left p s n 0)))
lines_end {p = p} {s = s} {n = n} {v = v} {f = f} h l = sends_as (from_all p s n f) (sending_all h.so (from-none p s n f v l))

-- ---- an event

pub event_as : (e m k : ℕ) (xs : List Action) → k ≡ length xs → (m ∷ k ∷ []) ++ flat_map (action_words e) xs ≡ event_words e (event m xs)
unfolding event_words
event_as e m k xs h = rw h
