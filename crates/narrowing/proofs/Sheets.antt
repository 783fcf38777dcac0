-- Of a sound sheet: an alternative has at most five tokens, and its constraints name only them. And the answer, refusal by refusal.
-- Assumes nothing.
use mathlib.Core.Path.{◌≡◌, refl, sym, ap, ◌∙◌}
use mathlib.Core.Bool.{Bool, true, false, cond, false≢true}
use mathlib.Core.List.{List}
use Prim.Native.Nat.{ℕ, ◌+◌, ◌-◌, ◌*◌, ◌≤◌, ◌<◌}
use native.Mathlib.Omega.{arith}
use lib.ListN.{length}
use Rattle.std.specs.Prelude.{Ok, Err}
use borrow.Author.Tests.{eq-eqb, ne_eqb, lt-ltb, le-ltb, ltb-true, ltb-false}
use Rattle.answers.specs.declared.Numbers.{Numbers}
use Rattle.answers.specs.declared.Done.{Done}
use Rattle.answers.specs.declared.Refusal.{Refusal}
use Rattle.answers.specs.Numbers.{numbers, numbers_of, or_else}
use Rattle.answers.proofs.Stages.{stages, stage, held, refusal_number, done_number, or_refused}
use Rattle.words.specs.Words.{word}
use Rattle.clock.specs.Clock.{no_limit}
use Rattle.layout.specs.Layout.{fifth_width, count, offset, record_at, field, owner}
use Rattle.records.specs.Wrong.{has_trigger}
use Rattle.book.specs.Fault.{book_fault}
use Rattle.book.specs.Rules.{constraint_at}
use Rattle.book.proofs.Good.{good, no_number}
use Rattle.book.specs.Sound.{TokenSound, ConstraintSound, Sound}
use Rattle.book.proofs.Sound.{sound}
use Rattle.book.proofs.Inside.{first_word, in_range, ask_ranges, owner_at}
use Rattle.narrowing.specs.declared.Alternative.{Alternative}
use Rattle.narrowing.specs.First.{filled, constrained_all}
use Rattle.narrowing.specs.Narrowed.{Narrowed, narrowed}
use Rattle.narrowing.specs.Passes.{Seated, AllSeated}
use Rattle.narrowing.specs.Sheet.{rule_of, first_token, alternative_of, words_for, constraints_of, first_table, number_fault, room_fault, narrowing, table_after}
use Rattle.narrowing.proofs.Tables.{Seats, length-filled, length-all, filled_past, all_past, run-all}
use Rattle.narrowing.proofs.Ends.{narrowed-is}

-- ---- what a sound sheet says of an alternative

-- "0 for the trigger or 1..n for the alternative's names; 0 is bad without a trigger"
seat : (n x : ℕ) (t : Bool) → TokenSound n t x → Seated (n + (1 - cond t 0 1)) (cond t 0 1) x
seat n x true h = record { from = omega arith; until = omega (arith, h.named) }
seat n x false h =
    let some : x ≡ 0 → ⊥ = λ q. false≢true (h.triggered q) in
    record { from = omega (arith, some); until = omega (arith, h.named) }

module _ {s : List ℕ} (h : Sound 2 s) (a : ℕ) (l : a < count s 3) where
  -- its names are at most four
  pub few_tokens : (alternative_of s a).tokens ≤ 5
  few_tokens = omega (arith, (h.alternatives a l).names.few)

  -- constraint i of it is a sound one
  pub sound_constraint : (i : ℕ) → i < field 2 s 3 a 3
      → ConstraintSound s (offset s 5 + 3 * field 2 s 3 a 2 + i * 3) (field 2 s 3 a 1) (has_trigger 2 s (owner 2 s 2 2 a))
  unfolding fifth_width
  sound_constraint i k =
      let place : offset s 5 + 3 * field 2 s 3 a 2 + i * 3 ≡ record_at 2 s 5 (field 2 s 3 a 2 + i) = omega arith in
      rw place (rw (owner_at (ask_ranges h) a l i k) at (h.constraints refl (field 2 s 3 a 2 + i) (in_range (h.alternatives a l).asks i k)))

  -- so its two tokens are among the alternative's
  pub all_seated : AllSeated s (alternative_of s a)
  unfolding first_token rule_of
  all_seated i k = let c = sound_constraint i k in (seat _ _ _ c.left, seat _ _ _ c.right)

-- ---- an alternative as the code reads it

-- the trigger variable v of the rule r says which token is the first
module _ (s : List ℕ) (a : ℕ) {base r v : ℕ} (o : base ≡ offset s 2) (q : r ≡ rule_of s a) (w : v ≡ word s (base + r * 4)) where
  variable_is : v ≡ field 2 s 2 (rule_of s a) 0
  variable_is = w ∙ rw (o, q) (sym (first_word 2 s 2 (rule_of s a)))

  pub first_name : v ≡ no_limit → 1 ≡ first_token s a
  unfolding first_token
  first_name e = sym (rw (eq-eqb _ _ (sym variable_is ∙ e)))

  pub first_trigger : (v ≡ no_limit → ⊥) → 0 ≡ first_token s a
  unfolding first_token
  first_trigger e = sym (rw (ne_eqb _ _ (λ z. e (variable_is ∙ z))))

-- ---- the answer

module _ (s : List ℕ) (a : ℕ) (m : List ℕ) where
  -- what `narrow` says and what it leaves
  abbrev pub Outcome : List ℕ → Numbers → Type 0
  Outcome after answer = (answer ≡ narrowing s a (length m)) × (after ≡ table_after s a m)

  -- "the table is untouched by all of these"
  refused : (x : Numbers) → x ≡ narrowing s a (length m) → (x.number ≡ 0 → ⊥) → Outcome m x
  unfolding table_after
  refused x e h = (e, rw (ne_eqb (narrowing s a (length m)).number 0 (λ z. h (ap (λ (n : Numbers). n.number) e ∙ z))))

  -- the sheet's own fault
  pub bad_by : (r : Refusal) → numbers_of (Err r) ≡ book_fault 2 s → Outcome m (numbers_of (Err r))
  unfolding narrowing
  bad_by r e = refused (numbers_of (Err r)) (or_refused r (book_fault 2 s) _ e) (refusal_number r)

  module _ (z : (book_fault 2 s).number ≡ 0) where
    pub no_alternative_lem : count s 3 ≤ a → Outcome m (numbers 27 0 0)
    unfolding narrowing number_fault or_else
    no_alternative_lem h = refused _ (sym (rw (eq-eqb _ _ z, le-ltb a (count s 3) h))) (λ q. omega arith)

    pub too_short : a < count s 3 → length m < words_for s a → Outcome m (numbers 25 0 0)
    unfolding narrowing number_fault room_fault or_else
    too_short l h = refused _ (sym (rw (eq-eqb _ _ z, lt-ltb a (count s 3) l, lt-ltb (length m) (words_for s a) h))) (λ q. omega arith)

    enough : a < count s 3 → words_for s a ≤ length m → narrowing s a (length m) ≡ numbers 0 0 0
    unfolding narrowing number_fault room_fault or_else
    enough l h = rw (eq-eqb _ _ z, lt-ltb a (count s 3) l, le-ltb (length m) (words_for s a) h)

    pub done : a < count s 3 → words_for s a ≤ length m
        → Outcome (narrowed (alternative_of s a).tokens (first_table s (alternative_of s a) m)) (numbers 0 0 0)
    unfolding table_after
    done l h = (sym (enough l h), rw (enough l h))

pub sheet_sound : (s : List ℕ) → (book_fault 2 s).number ≡ 0 → Sound 2 s
sheet_sound s z = sound 2 s (good 2 s (no_number 2 s z))

-- p is alternative number a of a sheet without fault, as the code knows it
pub record Read (s : List ℕ) (a : ℕ) (p : Alternative) : Type 0 where
  pub sheet : (book_fault 2 s).number ≡ 0
  pub below : a < count s 3
  pub is : p ≡ alternative_of s a

-- n is the count that it read
pub read : (s : List ℕ) (a : ℕ) (p : Alternative) (d : Done) (n : ℕ) → numbers_of (Ok d) ≡ book_fault 2 s → n ≡ count s 3 → a < n
    → p ≡ alternative_of s a → Read s a p
read s a p d n e c l is = record { sheet = done_number d (book_fault 2 s) e; below = omega arith; is = is }

module _ {s : List ℕ} {a : ℕ} {p : Alternative} (r : Read s a p) where
  pub few_of : p.tokens ≤ 5
  few_of = rw r.is (few_tokens (sheet_sound s r.sheet) a r.below)

  pub seats_of : AllSeated s p
  seats_of = rw r.is (all_seated (sheet_sound s r.sheet) a r.below)

  pub short_of : (m : List ℕ) → length m < p.tokens * p.tokens → Outcome s a m m (numbers 25 0 0)
  unfolding words_for
  short_of m h = too_short s a m r.sheet r.below (rw r.is at h)

  -- begun, cut by the constraints, and then by composition
  pub done_of : (m begun limited after : List ℕ) → p.tokens * p.tokens ≤ length m → begun ≡ filled p.tokens (p.tokens * p.tokens) m
      → limited ≡ constrained_all p.tokens p.first (constraints_of s p) begun → after ≡ narrowed p.tokens limited
      → Outcome s a m after (numbers 0 0 0)
  unfolding words_for first_table
  done_of m begun limited after h b c d =
      let o = done s a m r.sheet r.below (rw r.is at h) in
      (o.0, d ∙ rw (c, b, r.is) o.1)

-- ---- what an answer 0 says, for the claims

pub record Answered (s : List ℕ) (a room : ℕ) : Type 0 where
  pub sheet : (book_fault 2 s).number ≡ 0
  pub below : a < count s 3
  pub enough : words_for s a ≤ room

pub answered : (s : List ℕ) (a room : ℕ) → (narrowing s a room).number ≡ 0 → Answered s a room
unfolding narrowing number_fault room_fault
answered s a room h =
    let x = (stages _ _).0 h in
    let y = (stages _ _).0 x.1 in
    let z = (stages _ _).0 y.1 in
    record { sheet = x.0; below = ltb-true _ _ (held _ 26 0 0 y.0); enough = ltb-false _ _ (stage _ 24 0 0 z.0) }

-- the table is then long enough at each stage
pub first-long : (s : List ℕ) (a : ℕ) (m : List ℕ) → words_for s a ≤ length m
    → (alternative_of s a).tokens * (alternative_of s a).tokens ≤ length (first_table s (alternative_of s a) m)
unfolding first_table words_for
first-long s a m h =
    let n = (alternative_of s a).tokens in
    omega (arith, length-all n (first_token s a) (constraints_of s (alternative_of s a)) (filled n (n * n) m), length-filled n (n * n) m)

-- and what is there in the end is the first table narrowed
pub table-narrowed : (s : List ℕ) (a : ℕ) (m : List ℕ) → (narrowing s a (length m)).number ≡ 0
    → Narrowed (alternative_of s a).tokens (first_table s (alternative_of s a) m) (table_after s a m)
unfolding table_after
table-narrowed s a m h =
    rw (eq-eqb (narrowing s a (length m)).number 0 h) (narrowed-is (alternative_of s a).tokens _ (first-long s a m (answered s a (length m) h).enough))

-- "words past it stay": the constraints cut only words of the table
pub first_past : (s : List ℕ) (a : ℕ) (m : List ℕ) → Answered s a (length m) → (p : ℕ) → words_for s a ≤ p
    → word (first_table s (alternative_of s a) m) p ≡ word m p
unfolding first_table words_for constraints_of constraint_at
first_past s a m r p h =
    let n = (alternative_of s a).tokens in
    all_past n (first_token s a) _ (filled n (n * n) m) p
    (run-all (Seats n (first_token s a)) (constraint_at s) 3 (field 2 s 3 a 3) (offset s 5 + 3 * field 2 s 3 a 2) (all_seated (sheet_sound s r.sheet) a r.below)) h
    ∙ filled_past n (n * n) m p h

-- "the table is untouched by all of these"
pub refused_stays : (s : List ℕ) (a : ℕ) (m : List ℕ) → ((narrowing s a (length m)).number ≡ 0 → ⊥) → table_after s a m ≡ m
unfolding table_after
refused_stays s a m h = rw (ne_eqb (narrowing s a (length m)).number 0 h)
