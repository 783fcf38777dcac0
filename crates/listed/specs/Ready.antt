-- What writing a plan's list stands on, and what its first pass finds. Assumes nothing.
use Rattle.std.specs.Prelude.{◌≡◌, ℕ, ◌+◌, ◌^◌, ◌≤◌, ◌<◌, length}
use mathlib.Core.List.{List, flat_map}
use Rattle.words.specs.Words.{word}
use Rattle.clock.specs.Clock.{last_tick}
use Rattle.event_list.specs.Events.{plan_ticks, events_of}
use Rattle.event_list.specs.Words.{event_words}
use Rattle.event_list.specs.Plans.{plan_lines, list_of}
use Rattle.listed.specs.declared.Swept.{Swept}

-- a plan of n lines that passes: its lines are few, it ends in time, and its list's words can be counted
pub record Ready (p : List ℕ) (n : ℕ) : Type 0 where
  pub some : 0 < n
  pub few : n ≤ 16
  pub lines : n ≡ word p 2
  pub ticks : plan_ticks (plan_lines p) ≤ last_tick
  pub long : length (list_of p) < 2 ^ 32

-- the words of the list and its events, counted
pub record Sized (p : List ℕ) (r : Swept) : Type 0 where
  pub words : r.at ≡ 3 + length (flat_map (event_words (word p 0)) (events_of (plan_lines p)))
  pub events : r.events ≡ length (events_of (plan_lines p))
