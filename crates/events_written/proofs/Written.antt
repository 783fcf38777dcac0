-- What writing answers and leaves in the room, case by case. Assumes nothing.
use mathlib.Core.Path.{◌≡◌, refl, sym, ◌∙◌}
use mathlib.Core.List.{List}
use Prim.Native.Nat.{ℕ, ◌≤◌, ◌<◌}
use lib.ListN.{length}
use Rattle.words.specs.Words.{word}
use Rattle.words.specs.Write.{puts}
use Rattle.answers.specs.declared.Numbers.{Numbers}
use Rattle.std.specs.Prelude.{Err}
use Rattle.answers.specs.declared.Refusal.{Refusal}
use Rattle.answers.specs.Numbers.{numbers, numbers_of}
use Rattle.answers.proofs.Stages.{stages, refusal_number}
use Rattle.event_list.specs.Plans.{list_of}
use Rattle.event_list.specs.Answers.{write_fault, written_events, written_room}
use Rattle.event_list.proofs.Good.{Writes, writes}
use Rattle.listed.specs.declared.Swept.{Swept}
use Rattle.listed.specs.Ready.{Ready, Sized}
use Rattle.listed.proofs.Laws.{list_long}
use Rattle.listed.proofs.Outcome.{Outcome, refused, short, done, ready}

module _ (b p : List ℕ) where
  passes : (write_fault b p).number ≡ 0 → Writes b p
  unfolding write_fault
  passes h = let q = (stages _ _).0 h in writes b p q.0 q.1

  pub ready_for : (n : ℕ) → (write_fault b p).number ≡ 0 → n ≡ word p 2 → Ready p n
  ready_for n h e = ready b p n (passes h) e

  module _ (room : List ℕ) where
    written : {r : Numbers} {after : List ℕ} → Outcome (write_fault b p) (list_of p) room r after
        → (r ≡ written_events b p (length room)) × (after ≡ written_room b p room)
    unfolding written_events written_room
    written o = (o.numbers, o.left)

    pub written_refused : (r : Refusal) → numbers_of (Err r) ≡ write_fault b p
        → (numbers_of (Err r) ≡ written_events b p (length room)) × (room ≡ written_room b p room)
    written_refused r e = written (refused _ _ _ (numbers_of (Err r)) e refl (refusal_number r))

    module _ (pass : (write_fault b p).number ≡ 0) (size : Swept) (is : Sized p size) where
      long : size.at ≡ length (list_of p)
      long = is.words ∙ sym (list_long p)

      pub written_short : length room < size.at
          → (numbers 21 size.at 0 ≡ written_events b p (length room)) × (room ≡ written_room b p room)
      written_short l = written (short _ _ _ pass _ long l)

      pub written-done : size.at ≤ length room → (after : List ℕ) → after ≡ puts room 0 (list_of p)
          → (numbers 0 size.at 0 ≡ written_events b p (length room)) × (after ≡ written_room b p room)
      written-done l after q = written (done _ _ _ pass _ long l after q)
