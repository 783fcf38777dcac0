-- Reading a list: for each line one pass over the list's words, for any words at all. What a list isn't fit for (counts, order, starts) isn't
-- asked here: the plan that is read is written again, and then compared. Assumes nothing.
use Rattle.std.specs.Prelude.{Bool, ◌&&◌, not, cond, List, [], ◌∷◌, ◌++◌, ℕ, zero, suc, ◌+◌, ◌-◌, leb, eqb, length}
use Rattle.words.specs.Words.{word}
use Rattle.words.specs.Runs.{run}
use Rattle.clock.specs.Clock.{no_limit}
use Rattle.layout.specs.Layout.{count}
use Rattle.event_list.specs.Events.{Line, plan_token}
use Rattle.event_list.specs.Words.{action_width}
use Rattle.event_list.specs.Plans.{plan_words}

-- the job of the action at a place: "the job as a fourth word, in list edition 2"
unfoldable pub action_job : List ℕ → ℕ → ℕ
action_job w place = cond (eqb (word w 0) 2) (word w (place + 3)) 0

-- the action at a place is an end on line x: "timeline, value, and 0 for end"
unfoldable pub ends_here : List ℕ → ℕ → ℕ → Bool
ends_here w x place = eqb (word w place) x && eqb (word w (place + 2)) 0

-- ticks so far, and a delay more; at N, which no token of a plan lasts, they stay
unfoldable pub add_ticks : ℕ → ℕ → ℕ
add_ticks ticks delay = cond (leb (ticks + delay) no_limit) (ticks + delay) no_limit

-- ---- One step at a place: `left` actions of this event are still to come. Where none is, an event begins, "delay .., number of actions";
-- otherwise an action stands there. `ticks` have gone by since the last end on line x.

unfoldable pub next_place : List ℕ → ℕ → ℕ → ℕ
next_place w place left = place + cond (eqb left 0) 2 (action_width (word w 0))

unfoldable pub next_left : List ℕ → ℕ → ℕ → ℕ
next_left w place left = cond (eqb left 0) (word w (place + 1)) (left - 1)

-- the action there ends a token of line x
unfoldable pub closes : List ℕ → ℕ → ℕ → ℕ → Bool
closes w x place left = not (eqb left 0) && ends_here w x place

unfoldable pub next_ticks : List ℕ → ℕ → ℕ → ℕ → ℕ → ℕ
next_ticks w x place left ticks = cond (eqb left 0) (add_ticks ticks (word w place)) (cond (ends_here w x place) 0 ticks)

-- the token that is closed there, if one is
unfoldable pub closed : List ℕ → ℕ → ℕ → ℕ → ℕ → Line
closed w x place left ticks = cond (closes w x place left) (plan_token (word w (place + 1)) ticks (action_job w place) ∷ []) []

-- the tokens of line x that are closed in n steps from a place on, or up to the list's end
unfoldable pub read_from : List ℕ → ℕ → ℕ → ℕ → ℕ → ℕ → Line
read_from w x zero place left ticks = []
read_from w x (suc n) place left ticks =
    let rest = read_from w x n (next_place w place left) (next_left w place left) (next_ticks w x place left ticks) in
    cond (leb (length w) place) [] (closed w x place left ticks ++ rest)

-- line x of a list: its events stand behind the first three words
unfoldable pub read_line : List ℕ → ℕ → Line
read_line w x = read_from w x (length w) 3 0 0

-- the first n lines
unfoldable pub read_lines : List ℕ → ℕ → List Line
read_lines w n = run (read_line w) 1 n 0

-- THE PLAN that a list gives: "the list's edition decides the plan's", and it has a line for each of the book's variables
unfoldable pub plan_from : List ℕ → List ℕ → List ℕ
plan_from b w = plan_words (word w 0) (read_lines w (count b 0))
