-- What writing a plan as events and reading a list back answer, and what the room holds afterwards. Assumes nothing.
use Rattle.std.specs.Prelude.{◌≡◌, Bool, ◌&&◌, cond, List, ◌++◌, ℕ, ltb, eqb, length, drop}
use Rattle.answers.specs.declared.Numbers.{Numbers}
use Rattle.answers.specs.Numbers.{numbers, no_fault, or_else}
use Rattle.book.specs.Fault.{book_fault}
use Rattle.plan.specs.Fault.{plan_fault}
use Rattle.event_list.specs.Plans.{list_of}
use Rattle.event_list.specs.Reading.{plan_from}
use Rattle.event_list.specs.Sends.{is_words}

-- "those of the judge to 18 for writing"
unfoldable pub write_fault : List ℕ → List ℕ → Numbers
write_fault b p = or_else (book_fault 1 b) (plan_fault b p)

-- "21 for short room with the words needed"
unfoldable pub room_fault : List ℕ → ℕ → Numbers
room_fault ws room = cond (ltb room (length ws)) (numbers 21 (length ws) 0) no_fault

-- "Success is 0 with the words written"
unfoldable pub into : List ℕ → ℕ → Numbers
into ws room = or_else (room_fault ws room) (numbers 0 (length ws) 0)

-- "and later words stay"; "The room is untouched then", at a refusal
unfoldable pub room_after : Numbers → List ℕ → List ℕ → List ℕ
room_after answer ws room = cond (eqb answer.number 0) (ws ++ drop (length ws) room) room

-- ---- writing: "those of the judge to 18 for writing, then 21"

unfoldable pub written_events : List ℕ → List ℕ → ℕ → Numbers
written_events b p room = or_else (write_fault b p) (into (list_of p) room)

unfoldable pub written_room : List ℕ → List ℕ → List ℕ → List ℕ
written_room b p room = room_after (written_events b p (length room)) (list_of p) room

-- ---- reading: "1 to 4, then 20 for any list that the writer could not have made, with no place, then 21"

-- a list that the writer could have made: some plan that passes 5 to 11 and 18 writes to it
pub record Made (b w : List ℕ) : Type 0 where
  pub plan : List ℕ
  pub passes : (plan_fault b plan).number ≡ 0
  pub list : list_of plan ≡ w

-- the plan that the list gives passes 5 to 11 and 18, and written again it is the list
unfoldable pub could_be_written : List ℕ → List ℕ → Bool
could_be_written b w = eqb (plan_fault b (plan_from b w)).number 0 && is_words w (list_of (plan_from b w))

unfoldable pub list_fault : List ℕ → List ℕ → Numbers
list_fault b w = cond (could_be_written b w) no_fault (numbers 20 0 0)

unfoldable pub read_events : List ℕ → List ℕ → ℕ → Numbers
read_events b w room = or_else (book_fault 1 b) (or_else (list_fault b w) (into (plan_from b w) room))

unfoldable pub read_room : List ℕ → List ℕ → List ℕ → List ℕ
read_room b w room = room_after (read_events b w (length room)) (plan_from b w) room
