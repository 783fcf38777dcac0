-- What the list of a plan says: "for each event the delay since the event before (0 for the first), the number of actions (1 or more), and for
-- each action .. Actions go by timeline, end before start. Later delays are 1 or more". No other events do. Assumes nothing.
use mathlib.Core.Path.{◌≡◌, sym, ◌∙◌}
use mathlib.Core.Logic.{◌↔◌}
use mathlib.Core.List.{List}
use Prim.Native.Nat.{ℕ, ◌≤◌}
use lib.ListN.{length}
use Rattle.words.specs.Words.{word}
use Rattle.book.specs.Fault.{book_fault}
use Rattle.plan.specs.Fault.{plan_fault}
use Rattle.event_list.specs.Events.{Event, events_of}
use Rattle.event_list.specs.Words.{list_words}
use Rattle.event_list.specs.Moments.{Shaped}
use Rattle.event_list.specs.Plans.{plan_lines, list_of}
use Rattle.event_list.proofs.Good.{Writes, writes, together}
use Rattle.event_list.proofs.Moments.{events_at, events_shape, events_only}
use Rattle.event_list.proofs.Size as size
use Rattle.events_claims.specs.Meaning.{Say}

module _ (b p : List ℕ) (sound : (book_fault 1 b).number ≡ 0) (passes : (plan_fault b p).number ≡ 0) where
  abbrev w : Writes b p
  w = writes b p sound passes

  -- events of this shape that say what happens in a plan are the plan's
  events_are : (es : List Event) → Shaped es → Say p es → es ≡ events_of (plan_lines p)
  events_are es h k =
      events_only es (events_of (plan_lines p)) h (events_shape (plan_lines p) (together b p w)) (λ T. k T ∙ sym (events_at p (together b p w) T))

  -- THE MEANING: a plan's events are exactly those that have this shape and say what happens in it
  pub events_iff : (es : List Event) → (es ≡ events_of (plan_lines p)) ↔ (Shaped es × Say p es)
  events_iff es = (
    λ e. (rw e (events_shape (plan_lines p) (together b p w)), λ T. rw e (events_at p (together b p w) T)),
    λ h. events_are es h.0 h.1,
  )

  -- so the list is the words of such events
  pub list_says : (es : List Event) → Shaped es → Say p es → list_of p ≡ list_words (word p 0) es
  unfolding list_of
  list_says es h k = rw (sym (events_are es h k))

  -- "The longest is 65,367 words in edition 1 .. and 54,515 in edition 2": no number of a list leaves 32 bits
  pub longest : ((word p 0 ≡ 2 → ⊥) → length (list_of p) ≤ 65367) × (word p 0 ≡ 2 → length (list_of p) ≤ 54515)
  longest = size.longest b p w
