-- The demands of L6: "Writing then reading gives the plan's words; reading then writing gives the list's; no two plans share a list", for each
-- edition. Assumes nothing.
use mathlib.Core.Path.{◌≡◌, refl, sym, ap, ◌∙◌}
use mathlib.Core.List.{List, ◌++◌}
use Prim.Native.Nat.{ℕ, ◌≤◌}
use lib.ListN.{length, take, drop}
use lib.Seq.{take-append_seam}
use Rattle.answers.specs.Numbers.{numbers}
use Rattle.words.specs.Words.{word}
use Rattle.book.specs.Fault.{book_fault}
use Rattle.plan.specs.Fault.{plan_fault}
use Rattle.event_list.specs.Plans.{plan_words, list_of}
use Rattle.event_list.specs.Reading.{plan_from}
use Rattle.event_list.specs.Answers.{Made, written_events, written_room, read_events, read_room}
use Rattle.event_list.proofs.Good.{writes}
use Rattle.event_list.proofs.Round.{round, list_head}
use Rattle.event_list.proofs.Again.{made-from}
use Rattle.events_claims.proofs.Answers.{written-done, read_done, write-0, read-0}

-- ---- on words

module _ (b : List ℕ) (sound : (book_fault 1 b).number ≡ 0) where
  -- "Writing then reading gives the plan's words"
  pub write_then_read : (p : List ℕ) → (plan_fault b p).number ≡ 0 → plan_from b (list_of p) ≡ p
  write_then_read p h = round b p (writes b p sound h)

  -- "reading then writing gives the list's"
  pub read_then_write : (w : List ℕ) → Made b w → list_of (plan_from b w) ≡ w
  read_then_write w m = ap list_of (made-from b sound w m.plan m.passes m.list) ∙ m.list

  -- "no two plans share a list", for one book
  pub one_list : (p q : List ℕ) → (plan_fault b p).number ≡ 0 → (plan_fault b q).number ≡ 0 → list_of p ≡ list_of q → p ≡ q
  one_list p q h k e = sym (round b p (writes b p sound h)) ∙ ap (plan_from b) e ∙ round b q (writes b q sound k)

-- "an edition 1 plan still gives list edition 1", an edition 2 plan list edition 2; and "the list's edition decides the plan's"
pub list_edition : (p : List ℕ) → word (list_of p) 0 ≡ word p 0
list_edition p = (list_head p).0

-- "total words": as for book and plan, word 1 is the list's length
pub list_total : (p : List ℕ) → word (list_of p) 1 ≡ length (list_of p)
list_total p = (list_head p).1

pub plan_edition : (b w : List ℕ) → word (plan_from b w) 0 ≡ word w 0
unfolding plan_from plan_words
plan_edition b w = refl

-- ---- as the two functions answer, with what they leave in the rooms

-- the words written are the first of the room
first-words : (ws room : List ℕ) → take (length ws) (ws ++ drop (length ws) room) ≡ ws
first-words ws room = take-append_seam ws (drop (length ws) room)

module _ (b : List ℕ) where
  -- a plan is written into a room; the words written are read into a second room, if that holds the plan
  pub written_then_read : (p room second : List ℕ) → (written_events b p (length room)).number ≡ 0 → length p ≤ length second
      → (read_events b (take (length (list_of p)) (written_room b p room)) (length second) ≡ numbers 0 (length p) 0)
      × (read_room b (take (length (list_of p)) (written_room b p room)) second ≡ p ++ drop (length p) second)
  written_then_read p room second z fits =
      let g = (write-0 b p room).0 z in
      let there : take (length (list_of p)) (written_room b p room) ≡ list_of p = ap (take (length (list_of p))) (written-done b p room z).1
      ∙ first-words (list_of p) room in
      let made : Made b (list_of p) = record { plan = p; passes = g.1; list = refl } in
      let same : plan_from b (list_of p) ≡ p = round b p (writes b p g.0 g.1) in
      let done = read_done b (list_of p) second ((read-0 b (list_of p) second).1 (g.0, made, rw same fits)) in
      rw there (rw same at done)

  -- a list is read into a room; the plan's words are written into a second room, if that holds the list
  pub read_then_written : (w room second : List ℕ) → (read_events b w (length room)).number ≡ 0 → length w ≤ length second
      → (written_events b (take (length (plan_from b w)) (read_room b w room)) (length second) ≡ numbers 0 (length w) 0)
      × (written_room b (take (length (plan_from b w)) (read_room b w room)) second ≡ w ++ drop (length w) second)
  read_then_written w room second z fits =
      let g = (read-0 b w room).0 z in
      let there : take (length (plan_from b w)) (read_room b w room) ≡ plan_from b w = ap (take (length (plan_from b w))) (read_done b w room z).1
      ∙ first-words (plan_from b w) room in
      let is : plan_from b w ≡ g.1.plan = made-from b g.0 w g.1.plan g.1.passes g.1.list in
      let same : list_of (plan_from b w) ≡ w = read_then_write b g.0 w g.1 in
      let passes : (plan_fault b (plan_from b w)).number ≡ 0 = rw is g.1.passes in
      let done = written-done b (plan_from b w) second ((write-0 b (plan_from b w) second).1 (g.0, passes, rw same fits)) in
      rw there (rw same at done)
