-- A plan's lines as events in time order. Assumes nothing.
use Rattle.std.specs.Prelude.{cond, List, [], ◌∷◌, ◌++◌, map, ℕ, zero, suc, ◌+◌, ◌-◌, leb, eqb}

-- a token as the plan's words have it: value, duration and job
pub record PlanToken : Type 0 where
  pub value : ℕ
  pub duration : ℕ
  pub job : ℕ

-- "for each action timeline, value, and 0 for end or 1 for start"; "the job as a fourth word"
pub record Action : Type 0 where
  pub line : ℕ
  pub value : ℕ
  pub kind : ℕ
  pub job : ℕ

-- "for each event the delay since the event before", and its actions
pub record Event : Type 0 where
  pub delay : ℕ
  pub actions : List Action

abbrev pub Line : Type 0
Line = List PlanToken

abbrev pub plan_token : ℕ → ℕ → ℕ → PlanToken
plan_token value duration job = record { value = value; duration = duration; job = job }

abbrev pub action : ℕ → ℕ → ℕ → ℕ → Action
action line value kind job = record { line = line; value = value; kind = kind; job = job }

abbrev pub event : ℕ → List Action → Event
event delay actions = record { delay = delay; actions = actions }

-- "0 for end or 1 for start" of a token on line k
abbrev pub end : ℕ → PlanToken → Action
end k t = action k t.value 0 t.job

abbrev pub start : ℕ → PlanToken → Action
start k t = action k t.value 1 t.job

-- ---- The sweep's state is what is left of each line; the first token's duration is what it has still to run.

-- how long a line's running token has still to run; 0 where nothing is left
unfoldable pub to_run : Line → ℕ
to_run [] = 0
to_run (t ∷ ts) = t.duration

-- the start of a line's next token, if there is one
unfoldable pub start_on : ℕ → Line → List Action
start_on k [] = []
start_on k (t ∷ ts) = start k t ∷ []

-- line k after m ticks, "end before start": its running token ends then and the next starts, or nothing happens
unfoldable pub change_on : ℕ → ℕ → Line → List Action
change_on m k [] = []
change_on m k (t ∷ ts) = cond (eqb t.duration m) (end k t ∷ start_on k ts) []

-- what is left of a line m ticks later
unfoldable pub later : ℕ → Line → Line
later m [] = []
later m (t ∷ ts) = cond (eqb t.duration m) ts (plan_token t.value (t.duration - m) t.job ∷ ts)

-- "Actions go by timeline": of each line in its turn, numbered from k on
unfoldable pub by_line : {A : Type 0} → (ℕ → A → List Action) → ℕ → List A → List Action
by_line f k [] = []
by_line f k (l ∷ ls) = f k l ++ by_line f (k + 1) ls

abbrev pub lesser : ℕ → ℕ → ℕ
lesser a b = cond (leb a b) a b

-- the ticks to the next end: the least that a running token has still to run, or n where that is less
unfoldable pub soonest : ℕ → List Line → ℕ
soonest n [] = n
soonest n (l ∷ ls) = lesser (to_run l) (soonest n ls)

-- the events from here on, of lines with at most n ticks left: "the delay since the event before", and all that happens then
unfoldable pub sweep : ℕ → List Line → List Event
sweep zero ls = []
sweep (suc n) ls =
    let m = soonest (suc n) ls in
    let r = event m (by_line (change_on m) 0 ls) ∷ sweep n (map (later m) ls) in
    cond (eqb m 0) [] r

-- the ticks of a line
unfoldable pub line_ticks : Line → ℕ
line_ticks [] = 0
line_ticks (t ∷ ts) = t.duration + line_ticks ts

-- the ticks of timeline 0, which are those of every line of a plan that passes 18; 0 where there are no lines
unfoldable pub plan_ticks : List Line → ℕ
plan_ticks [] = 0
plan_ticks (l ∷ ls) = line_ticks l

-- THE EVENTS of a plan's lines: at 0 every line starts, "0 for the first" delay; then the sweep. A plan without tokens has none
unfoldable pub events_of : List Line → List Event
events_of ls = cond (eqb (plan_ticks ls) 0) [] (event 0 (by_line start_on 0 ls) ∷ sweep (plan_ticks ls) ls)
