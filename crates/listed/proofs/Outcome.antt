-- Answers and the room, case by case; and a plan that passes is ready to be written. Assumes nothing.
use mathlib.Core.Path.{◌≡◌, refl, sym, ap, ◌∙◌}
use mathlib.Core.List.{List, ◌++◌}
use Prim.Native.Nat.{ℕ, ◌+◌, ◌≤◌, ◌<◌, ◌^◌}
use native.Mathlib.Decide.{ℕ_discrete}
use native.Mathlib.Omega.{arith}
use lib.ListN.{length, drop}
use borrow.Author.Tests.{lt-ltb, le-ltb, ne_eqb}
use Rattle.words.specs.Words.{word}
use Rattle.words.specs.Write.{puts}
use Rattle.words.proofs.Write.{puts_eq}
use Rattle.answers.specs.declared.Numbers.{Numbers}
use Rattle.answers.specs.Numbers.{numbers, no_fault, or_else}
use Rattle.answers.proofs.Stages.{else_fault, else_next}
use Rattle.event_list.specs.Plans.{list_of}
use Rattle.event_list.specs.Answers.{room_fault, into, room_after}
use Rattle.event_list.proofs.Good.{Writes, in_time}
use Rattle.event_list.proofs.Size.{longest}
use Rattle.listed.specs.Ready.{Ready}

-- ---- a stage that found something, and one that didn't

pub stop : {x v n : Numbers} (y : Numbers) → v ≡ x → n ≡ v → (n.number ≡ 0 → ⊥) → v ≡ or_else x y
stop {x} {v} y e q h = e ∙ sym (else_fault x y (λ z. h (ap (λ (k : Numbers). k.number) (q ∙ e) ∙ z)))

pub pass : {x v n y w : Numbers} → v ≡ x → n ≡ v → n.number ≡ 0 → w ≡ y → w ≡ or_else x y
pass {x} {v} {n} {y} e q h k = k ∙ sym (else_next x y (sym (ap (λ (k : Numbers). k.number) (q ∙ e)) ∙ h))

-- nothing was found
pub clear : {x v n : Numbers} → v ≡ x → n ≡ v → n.number ≡ 0 → x.number ≡ 0
clear e q h = sym (ap (λ (k : Numbers). k.number) (q ∙ e)) ∙ h

-- ---- the answer and the room: the words ws are put into the room, if nothing is wrong before

-- what a function has to show of its answer and of the room afterwards
pub record Outcome (fault : Numbers) (ws room : List ℕ) (r : Numbers) (after : List ℕ) : Type 0 where
  pub numbers : r ≡ or_else fault (into ws (length room))
  pub left : after ≡ room_after (or_else fault (into ws (length room))) ws room

module _ (fault : Numbers) (ws room : List ℕ) where
  kept : (r : Numbers) → r ≡ or_else fault (into ws (length room)) → (r.number ≡ 0 → ⊥) → Outcome fault ws room r room
  unfolding room_after
  kept r e h = record { numbers = e; left = rw (← e, ne_eqb _ _ h) }

  pub refused : {n : Numbers} (r : Numbers) → r ≡ fault → n ≡ r → (n.number ≡ 0 → ⊥) → Outcome fault ws room r room
  refused r e q h = kept r (stop (into ws (length room)) e q h) (λ z. h (ap (λ (k : Numbers). k.number) q ∙ z))

  module _ (clear : fault.number ≡ 0) where
    pub short : (k : ℕ) → k ≡ length ws → length room < k → Outcome fault ws room (numbers 21 k 0) room
    unfolding into room_fault
    short k e l =
        let fault-21 : into ws (length room) ≡ numbers 21 (length ws) 0 =
        rw (lt-ltb (length room) (length ws) (omega (arith, e, l))) (else_fault _ _ (λ z. omega (arith, z))) in
        kept _ (ap (λ (i : ℕ). numbers 21 i 0) e ∙ sym (else_next fault _ clear ∙ fault-21)) (λ z. omega (arith, z))

    pub done : (k : ℕ) → k ≡ length ws → k ≤ length room → (after : List ℕ) → after ≡ puts room 0 ws → Outcome fault ws room (numbers 0 k 0) after
    unfolding into room_fault room_after
    done k e l after q =
        let fits : into ws (length room) ≡ numbers 0 (length ws) 0 =
        rw (le-ltb (length room) (length ws) (omega (arith, e, l))) (else_next no_fault _ refl) in
        let zero : 0 + length ws ≡ length ws = omega arith in
        let is : or_else fault (into ws (length room)) ≡ numbers 0 (length ws) 0 = else_next fault _ clear ∙ fits in
        record {
          numbers = ap (λ (i : ℕ). numbers 0 i 0) e ∙ sym is;
          left = q ∙ puts_eq room 0 ws (omega (arith, e, l)) ∙ rw is (ap (λ (i : ℕ). ws ++ drop i room) zero);
        }

-- ---- a plan that passes

pub ready : (b p : List ℕ) (n : ℕ) → Writes b p → n ≡ word p 2 → Ready p n
ready b p n w e =
    let lines = w.plan.head.timelines in
    record {
      some = omega (arith, e, lines, w.book.header.some 0 (omega arith));
      few = omega (arith, e, lines, w.book.header.few 0 (omega arith));
      lines = e;
      ticks = in_time b p w;
      long = few;
    }
  where
    few : length (list_of p) < 2 ^ 32
    few =
        elim (ℕ_discrete (word p 0) 2) [
          | yes q ↦ omega (arith, (longest b p w).1 q)
          | no q ↦ omega (arith, (longest b p w).0 q)
        ]
