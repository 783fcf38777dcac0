-- What is left of a plan's lines at a moment, as the code keeps it, and the lines that it stands for. Assumes nothing.
use Rattle.std.specs.Prelude.{Bool, cond, List, [], ◌∷◌, ℕ, zero, suc, ◌+◌, ◌*◌, ◌^◌, ◌<◌, get_or}
use Rattle.words.specs.Words.{word}
use Rattle.words.specs.Runs.{run}
use Rattle.lines.specs.Lines.{token_width, job_at}
use Rattle.event_list.specs.Events.{Line, Action, plan_token, start_on, change_on}
use Rattle.event_list.specs.Plans.{token_at}
use Rattle.sweep.specs.declared.Stand.{Stand}

-- a line of which nothing is left
abbrev pub nothing : Stand
nothing = record { place = 0; left = 0; run = 0 }

-- n tokens from a place on, the first of which has still `ticks` to run
unfoldable pub tokens_left : List ℕ → ℕ → ℕ → ℕ → Line
tokens_left p zero place ticks = []
tokens_left p (suc n) place ticks = plan_token (word p place) ticks (job_at p place) ∷ run (token_at p) (token_width p) n (place + token_width p)

unfoldable pub line_left : List ℕ → Stand → Line
line_left p l = tokens_left p l.left l.place l.run

-- what is left of line v
unfoldable pub left_on : List ℕ → List Stand → ℕ → Line
left_on p s v = line_left p (get_or s v nothing)

-- and of n lines from line v on
unfoldable pub lines_left : List ℕ → List Stand → ℕ → ℕ → List Line
lines_left p s n v = run (left_on p s) 1 n v

-- a line behind its running token
unfoldable pub behind : Line → Line
behind [] = []
behind (t ∷ ts) = ts

-- what happens on line k: at 0 its first token starts; later, m ticks after the event before, "end before start"
unfoldable pub happens : Bool → ℕ → ℕ → Line → List Action
happens first m k l = cond first (start_on k l) (change_on m k l)

-- no place of a line's tokens wraps
pub record Small (l : Stand) : Type 0 where
  pub place : l.place + 3 * l.left < 2 ^ 40

abbrev pub AllSmall : List Stand → Type 0
AllSmall s = (v : ℕ) → Small (get_or s v nothing)
