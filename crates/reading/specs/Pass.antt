-- A pass over a list for one line, as the code keeps it: the place, how many actions of the event are still to come, and the ticks since
-- the line's last end. Assumes nothing.
use Rattle.std.specs.Prelude.{◌≡◌, Bool, List, ℕ, ◌+◌, ◌*◌, ◌≤◌, length}
use Rattle.words.specs.Words.{word}
use Rattle.words.specs.Write.{Wrote}
use Rattle.event_list.specs.Events.{Line}
use Rattle.event_list.specs.Plans.{line_words}
use Rattle.event_list.specs.Reading.{next_place, next_left, next_ticks, closes, closed}
use Rattle.reading.specs.declared.Pass.{Pass}
use Rattle.reading.specs.declared.Put.{Put}

abbrev pub step : List ℕ → ℕ → Pass → Pass
step w x p =
    record {
      place = next_place w p.place p.left;
      left = next_left w p.place p.left;
      ticks = next_ticks w x p.place p.left p.ticks;
    }

abbrev pub closes_at : List ℕ → ℕ → Pass → Bool
closes_at w x p = closes w x p.place p.left

abbrev pub closed_at : List ℕ → ℕ → Pass → Line
closed_at w x p = closed w x p.place p.left p.ticks

-- the tokens of a line were put behind `at`, by the list's edition, and counted
pub record Puts (w before after : List ℕ) (at : ℕ) (r : Put) (l : Line) (most : ℕ) : Type 0 where
  pub wrote : Wrote before after at r.at (line_words (word w 0) l)
  pub counted : r.tokens ≡ length l
  pub few : r.tokens ≤ most
  pub near : r.at ≤ at + 3 * most
