-- What events say of each moment, and what the decoded plan's timelines say of it. Assumes nothing.
use Rattle.std.specs.Prelude.{◌≡◌, cond, ℕ, ◌-◌, ◌<◌, ltb, eqb, length}
use mathlib.Core.List.{List, [], ◌∷◌, ◌++◌, flat_map}
use Rattle.words.specs.Lists.{All}
use Rattle.lines.specs.declared.Token.{Token}
use Rattle.event_list.specs.Events.{Action, Event, action}

-- the actions of the event T ticks from now; none where there is no such event
unfoldable pub actions_at : ℕ → List Event → List Action
actions_at T [] = []
actions_at T (e ∷ es) = cond (ltb T e.delay) [] (cond (eqb T e.delay) e.actions (actions_at (T - e.delay) es))

-- a token of line k at the time T: "1 for start" where it starts then, "0 for end" where it ends then
unfoldable pub token_at_time : ℕ → ℕ → Token → List Action
token_at_time T k t =
    cond (eqb t.start.tick T) (action k t.value 1 t.job ∷ []) [] ++ cond (eqb t.end.tick T) (action k t.value 0 t.job ∷ []) []

-- timeline k at the time T; its tokens follow each other, so that one ends before the next starts
unfoldable pub line_at_time : ℕ → ℕ → List Token → List Action
line_at_time T k line = flat_map (token_at_time T k) line

-- "Later delays are 1 or more", "the number of actions (1 or more)"
pub record Later (e : Event) : Type 0 where
  pub delay : 0 < e.delay
  pub actions : 0 < length e.actions

-- the delay is "0 for the first"; the later ones are as above
unfoldable pub Shaped : List Event → Type 0
Shaped [] = Unit
Shaped (e ∷ es) = (e.delay ≡ 0) × (0 < length e.actions) × All Later es
