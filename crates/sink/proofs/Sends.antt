-- Words sent to a sink in a row: an action's, and what a loop has sent. Assumes nothing.
use mathlib.Core.Path.{◌≡◌, refl, sym, ap, ◌∙◌}
use mathlib.Core.List.{List, [], ◌∷◌, ◌++◌, append_assoc, append-nil}
use Prim.Native.Nat.{ℕ, ◌+◌}
use lib.ListN.{length}
use borrow.Author.Tests.{eq-eqb, ne_eqb}
use Rattle.event_list.specs.Events.{Action}
use Rattle.event_list.specs.Words.{action_words}
use Rattle.event_list.proofs.Sends.{none, then}
use Rattle.sink.specs.declared.Sink.{Sink}
use Rattle.sink.specs.Sinks.{SendsTo}

-- nothing was sent
pub sends_none : (s : Sink) → SendsTo s s []
sends_none s = record { list = refl; room = refl; words = none _ _ _ _ }

-- some words, and then others
pub sends_then : {s t u : Sink} {xs ys : List ℕ} → SendsTo s t xs → SendsTo t u ys → SendsTo s u (xs ++ ys)
sends_then h q = record { list = q.list ∙ h.list; room = q.room ∙ h.room; words = then h.words (rw h.list at q.words) }

-- the same words, written another way
pub sends_as : {s t : Sink} {xs ys : List ℕ} → xs ≡ ys → SendsTo s t xs → SendsTo s t ys
sends_as e h = rw (← e) h

-- the place behind them
pub sends_place : {s t : Sink} {xs : List ℕ} → SendsTo s t xs → t.sent.at ≡ s.sent.at + length xs
sends_place h = h.words.place

-- an action's words, by the edition
pub wide-action : (edition : ℕ) (a : Action) → edition ≡ 2 → (a.line ∷ a.value ∷ a.kind ∷ a.job ∷ []) ≡ action_words edition a
unfolding action_words
wide-action edition a h = rw (eq-eqb _ _ h)

pub thin_action : (edition : ℕ) (a : Action) → (edition ≡ 2 → ⊥) → (a.line ∷ a.value ∷ a.kind ∷ []) ≡ action_words edition a
unfolding action_words
thin_action edition a h = rw (ne_eqb _ _ h)

-- ---- a loop that sends: what was sent and what is left is all

pub record Sending (s t : Sink) (rest all : List ℕ) : Type 0 where
  pub sent : List ℕ
  pub so : SendsTo s t sent
  pub whole : sent ++ rest ≡ all

pub sending_none : (s : Sink) (ws : List ℕ) → Sending s s ws ws
sending_none s ws = record { sent = []; so = sends_none s; whole = refl }

-- the first of what is left was sent
pub sending_more : {s t u : Sink} {rest all xs ys : List ℕ} → Sending s t rest all → rest ≡ xs ++ ys → SendsTo t u xs → Sending s u ys all
sending_more {rest = rest} {xs = xs} {ys = ys} h e q =
    record {
      sent = h.sent ++ xs;
      so = sends_then h.so q;
      whole = append_assoc h.sent xs ys ∙ ap (λ (r : List ℕ). h.sent ++ r) (sym e) ∙ h.whole;
    }

-- nothing is left
pub sending_all : {s t : Sink} {rest all : List ℕ} → Sending s t rest all → rest ≡ [] → SendsTo s t all
sending_all h e = sends_as (sym (append-nil h.sent) ∙ ap (λ (r : List ℕ). h.sent ++ r) (sym e) ∙ h.whole) h.so
