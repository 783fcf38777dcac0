-- From the least times of the table to the answer: they are the earliest times of the alternative, and each return is a case of what is told.
-- Two answers that are permitted are equal. Assumes nothing.
use mathlib.Core.Path.{◌≡◌, refl, sym, ap, ◌∙◌}
use mathlib.Core.Bool.{Bool, true, false, true≢false}
use mathlib.Core.Logic.{inl, inr}
use mathlib.Core.List.{List}
use Prim.Native.Nat.{ℕ, ◌+◌, ◌*◌, ◌≤◌, ◌<◌}
use native.Mathlib.Omega.{arith}
use lib.ListN.{length, get_or}
use borrow.Author.Tests.{eq-eqb, ne_eqb}
use Rattle.std.specs.Prelude.{Option, None, Some}
use Rattle.answers.specs.declared.Numbers.{Numbers}
use Rattle.answers.specs.Numbers.{numbers_at, numbers}
use Rattle.words.proofs.Runs.{length_run}
use Rattle.layout.specs.Layout.{count}
use Rattle.book.specs.Rules.{name_at, alternative_at, rule_at}
use Rattle.book.specs.Sound.{Sound}
use Rattle.book.proofs.Sound.{sound}
use Rattle.book.specs.Fault.{book_fault}
use Rattle.book.proofs.Good.{good, no_number}
use Rattle.bounds.specs.Bounds as bounds
use Rattle.earliest.specs.declared.Trigger.{Trigger}
use Rattle.earliest.specs.declared.Places.{Places}
use Rattle.earliest.specs.Times.{Times, shown_from, shown, laid, alternative_of, rule_of, SuitsOf, Told}
use Rattle.earliest.specs.Steps.{table_times, Added, Blank, NamesTimed, AtomsTimed, Triggered, trigger_of, places_of, Fits, Asked, Filled, Least, Decided}
use Rattle.earliest.proofs.Decoding.{fits, suits_of, slots_of, slot_zero, slot_start, slot_end, slot_last, asked_of}
use Rattle.earliest.proofs.Owning.{mark_of_none, no_mark_of_some}
use Rattle.earliest.proofs.Showing.{shown_le}

-- a book with the answer number 0 is sound
pub sound_book : {b : List ℕ} → (book_fault 1 b).number ≡ 0 → Sound 1 b
sound_book {b} e = sound 1 b (good 1 b (no_number 1 b e))

-- ---- the table

-- filled with the trigger, the names and the atoms, it says what the alternative asks
pub filled : {b : List ℕ} {t : Option Trigger} {p : Places} {w₀ w₁ w₂ w₃ : List ℕ} → Blank w₀ → Added (Triggered b t) w₀ w₁
    → Added (NamesTimed b p.name p.names) w₁ w₂ → Added (AtomsTimed b p.atom p.atoms) w₂ w₃ → Filled b t p w₃
filled e t n q = record {
  fresh = q.fresh;
  says = λ z o. (
    λ h.
        let r = (q.says z o).0 h in
        let s = (n.says z o).0 r.0 in
        record { trigger = ((t.says z o).0 s.0).1; names = s.1; atoms = r.1 },
    λ h. (q.says z o).1 ((n.says z o).1 ((t.says z o).1 (e.says z o, h.trigger), h.names), h.atoms),
  );
}

-- its least times are those of what is asked
pub least : {b : List ℕ} {t : Option Trigger} {p : Places} {w : List ℕ} {r : Bool} {before x : List ℕ} → Filled b t p w → bounds.Earliest w r before x
    → Least (Asked b t p) r x
least f e = record {
  meets = λ q. let h = e.meets q in (f.says _ h.starts).0 h.meets;
  least = λ q y o p. e.earliest q y (record { starts = o; meets = (f.says y o).1 p });
  none = λ q y o p. e.none q y (record { starts = o; meets = (f.says y o).1 p });
}

-- ---- the alternative

-- how many names it has, and whether there is a trigger
names-long : (b : List ℕ) (a : ℕ) → length (alternative_of b a).names ≡ (places_of b a).names
unfolding alternative_at
names-long b a = length_run (name_at b) 2 (places_of b a).names (places_of b a).name

shown_without : (b : List ℕ) (a : ℕ) (x : Times) → None ≡ trigger_of b a
    → shown (rule_of b a) (alternative_of b a) x ≡ shown_from x 1 (places_of b a).names
unfolding shown rule_at
shown_without b a x e = rw (eq-eqb _ _ (mark_of_none _ _ e), names-long b a)

shown_with : (b : List ℕ) (a : ℕ) (x : Times) (t : Trigger) → Some t ≡ trigger_of b a
    → shown (rule_of b a) (alternative_of b a) x ≡ shown_from x 0 ((places_of b a).names + 1)
unfolding shown rule_at
shown_with b a x t e = rw (ne_eqb _ _ (no_mark_of_some _ _ t e), names-long b a)

module _ {b : List ℕ} {a : ℕ} (e : (book_fault 1 b).number ≡ 0) (there : a < count b 3) where
  -- "no": no times of the table, so none of the alternative
  pub decided_no : {r : Bool} {x : List ℕ} (l : List ℕ) → r ≡ false → Least (Asked b (trigger_of b a) (places_of b a)) r x → Decided b a false l l
  decided_no l n h = record {
    could = λ q. absurd (true≢false (sym q));
    could_not = λ _.
        record { none = λ x s. h.none n (slots_of x) (slot_zero x) (asked_of (sound_book e) a there x s); stays = refl };
  }

  module _ {r : Bool} {x : List ℕ} (q : r ≡ true) (h : Least (Asked b (trigger_of b a) (places_of b a)) r x) where
    -- the least times of the table are not later than those of any choice
    not-later : (y : Times) → SuitsOf b a y → (k n : ℕ) → k + n ≤ 5
        → (i : ℕ) → get_or (shown_from (table_times x) k n) i 0 ≤ get_or (shown_from y k n) i 0
    not-later y s k n m =
        let least = h.least q (slots_of y) (slot_zero y) (asked_of (sound_book e) a there y s) in
        shown_le (table_times x) y k n
        (λ j l.
        (rw (slot_start y j (omega arith)) at (least (2 * j + 1) (omega arith)), rw (slot_end y j (omega arith)) at (least (2 * j + 2) (omega arith))))
        (rw (slot_last y) at (least 11 (omega arith)))

    -- "yes": they are the earliest, shown without or with the trigger
    decided_yes : (k n : ℕ) → k + n ≤ 5 → ((y : Times) → shown (rule_of b a) (alternative_of b a) y ≡ shown_from y k n)
        → {before after : List ℕ} → after ≡ laid before (shown_from (table_times x) k n) → Decided b a true before after
    decided_yes k n m same t = record {
      could = λ _.
          record {
            times = table_times x;
            earliest = record {
              suits = suits_of (sound_book e) a there _ (h.meets q);
              first = λ y s i. rw (same (table_times x), same y) (not-later y s k n m i);
            };
            shows = rw (same (table_times x)) t;
          };
      could_not = λ z. absurd (true≢false z);
    }

    pub decided_without : None ≡ trigger_of b a
        → {before after : List ℕ} → after ≡ laid before (shown_from (table_times x) 1 (places_of b a).names) → Decided b a true before after
    decided_without u t =
        let few = (fits (sound_book e) a there).few in
        decided_yes 1 (places_of b a).names (omega arith) (λ y. shown_without b a y u) t

    pub decided_with : (v : Trigger) → Some v ≡ trigger_of b a
        → {before after : List ℕ} → after ≡ laid before (shown_from (table_times x) 0 ((places_of b a).names + 1)) → Decided b a true before after
    decided_with v u t =
        let few = (fits (sound_book e) a there).few in
        decided_yes 0 ((places_of b a).names + 1) (omega arith) (λ y. shown_with b a y v u) t

-- ---- the same of a trigger and places that were read

module _ {b : List ℕ} {a : ℕ} {t : Option Trigger} {p : Places} (e : (book_fault 1 b).number ≡ 0) (there : a < count b 3) (et : t ≡ trigger_of b a)
    (ep : p ≡ places_of b a)
  where
    pub fits_read : Fits b t p
    fits_read = rw (et, ep) (fits (sound_book e) a there)

    module _ {r : Bool} {x : List ℕ} (h : Least (Asked b t p) r x) where
      least-read : Least (Asked b (trigger_of b a) (places_of b a)) r x
      least-read = rw (et, ep) at h

      pub no_read : (l : List ℕ) → r ≡ false → Decided b a false l l
      no_read l n = decided_no e there l n least-read

      pub without_read : r ≡ true → t ≡ None
          → {before after : List ℕ} → after ≡ laid before (shown_from (table_times x) 1 p.names) → Decided b a true before after
      without_read q u s =
          decided_without e there q least-read (sym u ∙ et) (rw ep at s)

      pub with_read : (v : Trigger) → r ≡ true → t ≡ Some v
          → {before after : List ℕ} → after ≡ laid before (shown_from (table_times x) 0 (p.names + 1)) → Decided b a true before after
      with_read v q u s =
          decided_with e there q least-read v (sym u ∙ et) (rw ep at s)

-- there are few alternatives
pub few_alternatives_lem : (b : List ℕ) (a : ℕ) → (book_fault 1 b).number ≡ 0 → a < count b 3 → a ≤ 1024
few_alternatives_lem b a e l = omega (arith, (sound_book e).header.few 3 (omega arith))

-- ---- what is told

pub told_refused : {b : List ℕ} {a : ℕ} {r : Numbers} (l : List ℕ) → r ≡ book_fault 1 b → (r.number ≡ 0 → ⊥) → Told b a r l l
told_refused l e n = record {
  refused = λ _. (e, refl);
  unknown = λ z. absurd (n (ap (λ (m : Numbers). m.number) e ∙ z));
  known = λ z. absurd (n (ap (λ (m : Numbers). m.number) e ∙ z));
}

pub told_unknown : {b : List ℕ} {a : ℕ} (l : List ℕ) → (book_fault 1 b).number ≡ 0 → count b 3 ≤ a → Told b a (numbers 27 0 0) l l
told_unknown l e n = record { refused = λ z. absurd (z e); unknown = λ _ _. (refl, refl); known = λ _ m. absurd (omega arith) }

module _ {b : List ℕ} {a : ℕ} {r : Bool} {before after : List ℕ} (e : (book_fault 1 b).number ≡ 0) (there : a < count b 3) (h : Decided b a r before after) where
  pub told-yes : r ≡ true → Told b a (numbers 0 1 0) before after
  told-yes q = record { refused = λ z. absurd (z e); unknown = λ _ m. absurd (omega arith); known = λ _ _. inl (refl, h.could q) }

  pub told_no : r ≡ false → Told b a (numbers 0 0 0) before after
  told_no q = record { refused = λ z. absurd (z e); unknown = λ _ m. absurd (omega arith); known = λ _ _. inr (refl, h.could_not q) }

-- ---- what is told of words and numbers that are the same

pub told-words : {b c : List ℕ} {a : ℕ} {r : Numbers} {before after : List ℕ} → b ≡ c → Told b a r before after → Told c a r before after
told-words e h = rw e at h

pub told-numbers : {b : List ℕ} {a : ℕ} {r n : Numbers} {before after : List ℕ} → n ≡ r → Told b a r before after
    → Told b a (numbers_at n.number n.a n.b n.c) before after
told-numbers e h = rw e h
