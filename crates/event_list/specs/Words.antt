-- Events as the words of a list. Assumes nothing.
use Rattle.std.specs.Prelude.{cond, ℕ, ◌+◌, eqb, length}
use mathlib.Core.List.{List, [], ◌∷◌, flat_map}
use Rattle.event_list.specs.Events.{Action, Event}

-- "An edition 2 plan's actions carry the job as a fourth word": the words of an action, by the list's edition
unfoldable pub action_width : ℕ → ℕ
action_width edition = cond (eqb edition 2) 4 3

-- "for each action timeline, value, and 0 for end or 1 for start"; "the job as a fourth word, in list edition 2"
unfoldable pub action_words : ℕ → Action → List ℕ
action_words edition a = a.line ∷ a.value ∷ a.kind ∷ cond (eqb edition 2) (a.job ∷ []) []

-- "for each event the delay since the event before (0 for the first), the number of actions (1 or more), and for each action .."
unfoldable pub event_words : ℕ → Event → List ℕ
event_words edition e = e.delay ∷ length e.actions ∷ flat_map (action_words edition) e.actions

-- "edition, total words, number of events; then for each event .."
unfoldable pub list_words : ℕ → List Event → List ℕ
list_words edition es = edition ∷ (3 + length (flat_map (event_words edition) es)) ∷ length es ∷ flat_map (event_words edition) es
