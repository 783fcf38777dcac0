-- Which lists the writer could have made; what reading answers and leaves in the room, case by case. Assumes nothing.
use mathlib.Core.Path.{◌≡◌, refl, sym, ap, ◌∙◌}
use mathlib.Core.Bool.{Bool, true, false, ◌&&◌, cond, true≢false}
use mathlib.Core.List.{List}
use Prim.Native.Nat.{ℕ, ◌+◌, ◌≤◌, ◌<◌}
use native.Mathlib.Decide.{ℕ_discrete}
use native.Mathlib.Omega.{arith}
use lib.Dec.{eqb}
use lib.ListN.{length, take, drop}
use lib.Seq.{take_at}
use borrow.Author.Tests.{eq-eqb, ne_eqb}
use Rattle.words.specs.Words.{word}
use Rattle.words.specs.Write.{puts, Wrote}
use Rattle.words.proofs.Write.{puts_eq, length-puts}
use Rattle.answers.specs.declared.Numbers.{Numbers}
use Rattle.std.specs.Prelude.{Ok, Err}
use Rattle.std.specs.Bool.{then_some}
use Rattle.std.specs.Result.{is_err}
use Rattle.answers.specs.declared.Refusal.{Refusal}
use Rattle.answers.specs.Numbers.{Answer, numbers, numbers_of, no_fault, or_else}
use Rattle.answers.proofs.Stages.{else_next, or_refused, refusal_number, refused_number, done_number}
use Rattle.book.specs.Fault.{book_fault}
use Rattle.book.proofs.Good.{good, no_number}
use Rattle.book.proofs.Sound.{sound}
use Rattle.plan.specs.Fault.{plan_fault}
use Rattle.event_list.specs.Plans.{list_of, plan_words}
use Rattle.event_list.specs.Reading.{read_lines, plan_from}
use Rattle.event_list.specs.Sends.{Sends, agrees, is_words}
use Rattle.event_list.specs.Answers.{into, room_after, could_be_written, list_fault, read_events, read_room}
use Rattle.event_list.proofs.Good.{writes}
use Rattle.event_list.proofs.Size.{longest}
use Rattle.event_list.proofs.Again.{could_iff}
use Rattle.listed.specs.Ready.{Ready}
use Rattle.events_read.specs.Found.{Plan, Finds}
use Rattle.listed.proofs.Outcome.{Outcome, refused, short, done, ready}

-- ---- a check that refused, and one that didn't

pub refused_is : (r : Answer) (x : Numbers) → numbers_of r ≡ x → is_err r ≡ true → x.number ≡ 0 → ⊥
refused_is (Ok d) x h e = absurd (true≢false (sym e))
refused_is (Err r) x h e = refused_number r x h

pub done_is : (r : Answer) (x : Numbers) → numbers_of r ≡ x → is_err r ≡ false → x.number ≡ 0
done_is (Ok d) x h e = done_number d x h
done_is (Err r) x h e = absurd (true≢false e)

-- ---- which lists could have been written

module _ (b : List ℕ) (book : (book_fault 1 b).number ≡ 0) where
  pub few_lines : (n : ℕ) → n ≡ word b 2 → n ≤ 16
  few_lines n e = omega (arith, e, (sound 1 b (good 1 b (no_number 1 b book))).header.few 0 (omega arith))

  pub ready_plan : (p : List ℕ) (n : ℕ) → (plan_fault b p).number ≡ 0 → n ≡ word p 2 → Ready p n
  ready_plan p n h e = ready b p n (writes b p book h) e

  module _ (w : List ℕ) where
    not_made : (could_be_written b w ≡ true → ⊥) → could_be_written b w ≡ false
    not_made h = by (could_be_written b w) h
      where
        by : (t : Bool) → (t ≡ true → ⊥) → t ≡ false
        by true n = absurd (n refl)
        by false n = refl

    -- a plan that passes has at most 16,384 words, and its list at most 65,367
    pub list_too_long : 65536 < length w → could_be_written b w ≡ false
    list_too_long l =
        not_made (λ h.
        let m = (could_iff b book w).0 h in
        let p = m.plan in
        let long = longest b p (writes b p book m.passes) in
        let same = ap length m.list in
        elim (ℕ_discrete (word p 0) 2) [ yes q ↦ omega (arith, long.1 q, same, l) | no q ↦ omega (arith, long.0 q, same, l) ])

    pub made-not : ((plan_fault b (plan_from b w)).number ≡ 0 → ⊥) → false ≡ could_be_written b w
    unfolding could_be_written
    made-not h = rw (ne_eqb _ 0 h)

    pub plan_too_long : 16384 < length (plan_from b w) → could_be_written b w ≡ false
    plan_too_long l = sym (made-not (λ h. omega (arith, (writes b (plan_from b w) book h).plan.short, l)))

    pub made-is : (p : List ℕ) → p ≡ plan_from b w → (plan_fault b p).number ≡ 0 → {l m : List ℕ} {at : ℕ} {s : Bool}
        → Sends w l m 0 true at s (list_of p) → (s && eqb at (length w)) ≡ could_be_written b w
    unfolding could_be_written is_words
    made-is p e h q = rw (← e, eq-eqb _ 0 h, q.same, q.place) (zero-add p)
      where
        zero-add : (p : List ℕ)
            → (agrees w 0 (list_of p) && eqb (0 + length (list_of p)) (length w)) ≡ (agrees w 0 (list_of p) && eqb (length (list_of p)) (length w))
        zero-add p = let z : 0 + length (list_of p) ≡ length (list_of p) = omega arith in rw z

-- ---- the plan, where it was put

pub plan_from_lem : (b w : List ℕ) (n : ℕ) → n ≡ word b 2 → plan_words (word w 0) (read_lines w n) ≡ plan_from b w
unfolding plan_from
plan_from_lem b w n e = rw e

pub put-long : {l m ws : List ℕ} {r : ℕ} → Wrote l m 0 r ws → r ≡ length ws
put-long h = omega (arith, h.next)

pub put_is : {l m ws : List ℕ} {r : ℕ} → Wrote l m 0 r ws → r ≤ length l → take r m ≡ ws
put_is {l} {m} {ws} {r} h fits =
    let long = put-long h in
    ap (take r) (h.same ∙ puts_eq l 0 ws (omega (arith, long, fits))) ∙ take_at ws (drop (0 + length ws) l) r (sym long)

pub wrote_length : {l m ws : List ℕ} {at r : ℕ} → Wrote l m at r ws → length m ≡ length l
wrote_length {l} {ws = ws} {at = at} h = ap length h.same ∙ length-puts l at ws

-- what `find` gives, by what `made` says of the plan
pub finds : (b w plan : List ℕ) (words : ℕ) (t : Bool) → t ≡ could_be_written b w → words ≡ length (plan_from b w) → words ≤ 16384
    → take words plan ≡ plan_from b w → Finds b w plan (then_some t words)
finds b w plan words true e l f p = record { made = sym e; long = l; few = f; plan_is = p }
finds b w plan words false e l f p = sym e

-- ---- the answer and the room

else_assoc : (x y z : Numbers) → or_else x (or_else y z) ≡ or_else (or_else x y) z
unfolding or_else
else_assoc x y z = by (eqb x.number 0) refl
  where
    by : (t : Bool) → eqb x.number 0 ≡ t → cond t (cond (eqb y.number 0) z y) x ≡ cond (eqb (cond t y x).number 0) z (cond t y x)
    by true e = refl
    by false e = rw e

module _ (b w room : List ℕ) where
  -- what is wrong with the book or the list
  abbrev fault : Numbers
  fault = or_else (book_fault 1 b) (list_fault b w)

  read : {r : Numbers} {after : List ℕ} → Outcome fault (plan_from b w) room r after
      → (r ≡ read_events b w (length room)) × (after ≡ read_room b w room)
  unfolding read_events read_room
  read o =
      let e = else_assoc (book_fault 1 b) (list_fault b w) (into (plan_from b w) (length room)) in
      (o.numbers ∙ sym e, o.left ∙ ap (λ (x : Numbers). room_after x (plan_from b w) room) (sym e))

  pub read_refused : (r : Refusal) → numbers_of (Err r) ≡ book_fault 1 b
      → (numbers_of (Err r) ≡ read_events b w (length room)) × (room ≡ read_room b w room)
  read_refused r e = read (refused _ _ _ (numbers_of (Err r)) (or_refused r (book_fault 1 b) (list_fault b w) e) refl (refusal_number r))

  module _ (book : (book_fault 1 b).number ≡ 0) where
    pub read-not : could_be_written b w ≡ false → (numbers 20 0 0 ≡ read_events b w (length room)) × (room ≡ read_room b w room)
    unfolding list_fault
    read-not h =
        let e : numbers 20 0 0 ≡ fault = sym (else_next (book_fault 1 b) (list_fault b w) book ∙ rw h) in
        read (refused _ _ _ _ e refl (λ z. omega (arith, z)))

    module _ (plan : List ℕ) (k : ℕ) (found : Plan b w plan k) where
      clear : fault.number ≡ 0
      unfolding list_fault
      clear =
          let e : fault ≡ no_fault = else_next (book_fault 1 b) (list_fault b w) book ∙ rw found.made in
          ap (λ (x : Numbers). x.number) e

      pub read_short : length room < k → (numbers 21 k 0 ≡ read_events b w (length room)) × (room ≡ read_room b w room)
      read_short l = read (short _ _ _ clear k found.long l)

      pub read_done : k ≤ length room → (after : List ℕ) → after ≡ puts room 0 (take k plan)
          → (numbers 0 k 0 ≡ read_events b w (length room)) × (after ≡ read_room b w room)
      read_done l after q = read (done _ _ _ clear k found.long l after (q ∙ ap (puts room 0) found.plan_is))
