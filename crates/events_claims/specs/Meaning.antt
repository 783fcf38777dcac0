-- What the theorems of proofs/Meaning are said in. Assumes nothing.
use Rattle.std.specs.Prelude.{◌≡◌, List, ℕ}
use Rattle.lines.specs.Lines.{lines_of}
use Rattle.event_list.specs.Events.{Event, by_line}
use Rattle.event_list.specs.Moments.{actions_at, line_at_time}

-- events say what happens in a plan: at each moment, of each timeline in its turn, which token ends then and which starts then
abbrev pub Say : List ℕ → List Event → Type 0
Say p es = (T : ℕ) → actions_at T es ≡ by_line (line_at_time T) 0 (lines_of p)
