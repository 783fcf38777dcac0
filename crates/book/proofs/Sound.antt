-- Just the good books are sound: each group of tests says in plain numbers what document 01 says of its words. Assumes nothing.
use mathlib.Core.Path.{◌≡◌, refl}
use mathlib.Core.Bool.{Bool, false}
use mathlib.Core.Logic.Iff
use mathlib.Core.Logic.{◌↔◌, ◌⊎◌, inl, inr, ⊎_elim}
use mathlib.Core.List.{List}
use Prim.Native.Nat.{ℕ, zero, suc, ◌+◌, ◌-◌, ◌*◌, ◌/◌, ◌%◌, ◌≤◌, ◌<◌}
use native.Mathlib.Decide.{dec_le, ℕ_discrete}
use native.Mathlib.Omega.{arith}
use lib.ListN.{length, get_or}
use borrow.Author.Tests.{leb-false, lt-leb, eq-eqb, ne_eqb}
use Rattle.words.specs.Words.{word}
use Rattle.words.specs.Lists.{All}
use Rattle.words.proofs.Lists.{all_get}
use Rattle.clock.specs.Clock.{no_limit}
use Rattle.layout.specs.Layout.{fewest, most, count, offset, begins, header_wrong, record_at, field}
use Rattle.layout.proofs.Tests.{or_right, plain}
use Rattle.layout.proofs.Bounds.{tables}
use Rattle.records.specs.Wrong.{Range, value_range, alternative_range, name_range, ask_range, start_wrong, number_wrong, lower_wrong, upper_wrong, set_wrong, variable_unknown, value_unknown, trigger_variable_wrong, trigger_value_wrong, token_wrong, kind_wrong, right_kind_wrong, argument_wrong, job_bound_wrong, variable_tests, value_tests, rule_tests, alternative_tests, name_tests, atom_tests, constraint_tests, fifth_tests_of, fifth_tests, record_tests}
use Rattle.book.specs.Fault.{leaves}
use Rattle.book.specs.Sound.{RangeSound, BoundsSound, Exist, TokenSound, TermSound, JobSound, VariableSound, ValueSound, RuleSound, AlternativeSound, NameSound, names_at, trigger_at, AtomSound, ConstraintSound, HeaderSound, Sound}
use Rattle.book.proofs.Good.{Good}

-- ---- each group of tests, in plain numbers and back

-- the two words of a range
range_right : (e : ℕ) (b : List ℕ) (r : Range) (i : ℕ) → ((start_wrong e b r i ≡ false) × (number_wrong e b r i ≡ false)) ↔ RangeSound e b r i
range_right e b r i = (λ h. let p = simp plain at h in omega arith, λ s. simp plain (omega arith))

-- a limit, or none
limit_right : (last none y : ℕ) → (last < y → y ≡ none) ↔ ((y ≤ last) ⊎ (y ≡ none))
limit_right last none y = (
  λ h. elim (dec_le y last) [ yes p ↦ inl p | no n ↦ inr (h (omega arith)) ],
  λ s l. ⊎_elim (λ p. absurd (omega arith)) (λ q. q) s,
)

-- the two words of bounds
bounds_right : (lo x y : ℕ) → ((lower_wrong lo x ≡ false) × (upper_wrong x y ≡ false)) ↔ BoundsSound lo x y
bounds_right lo x y = (
  λ h. let p = simp plain at h in record { from = omega arith; tick = omega arith; order = omega arith; limit = (limit_right _ _ y).0 p.1.1 },
  λ s. simp plain ((omega arith, omega arith), (omega arith, (limit_right _ _ y).1 s.limit)),
)

-- a variable and its value
exist_right : (e : ℕ) (b : List ℕ) (v x : ℕ) → ((variable_unknown b v ≡ false) × (value_unknown e b v x ≡ false)) ↔ Exist e b v x
exist_right e b v x = (λ h. let p = simp plain at h in omega arith, λ s. simp plain (omega arith))

-- a rule's trigger
trigger_right : (e : ℕ) (b : List ℕ) (v x : ℕ) → count b 0 ≤ no_limit
    → ((trigger_variable_wrong b v ≡ false) × (trigger_value_wrong e b v x ≡ false)) ↔ (((v ≡ no_limit) × (x ≡ 0)) ⊎ Exist e b v x)
trigger_right e b v x l = (
  λ h.
      let p = simp plain at h in
      elim (ℕ_discrete v no_limit) [ yes q ↦ inl (q, p.1.0 q) | no n ↦ inr (record { variable = p.0 n; value = p.1.1 n }) ],
  λ s.
      simp plain
      (⊎_elim (λ q. (λ n. absurd (n q.0), (λ n. q.1, λ n. absurd (n q.0))))
      (λ q. (λ n. q.variable, (λ n. absurd (omega arith), λ n. q.value)))
      s),
)

-- the number of a token
token_right : (n : ℕ) (trigger : Bool) (x : ℕ) → (token_wrong n trigger x ≡ false) ↔ TokenSound n trigger x
token_right n trigger x = (
  λ h. let p = simp plain at h in record { named = omega arith; triggered = p.1 },
  λ s. simp plain (omega arith, s.triggered),
)

-- the two words of a term
term_right : (n : ℕ) (trigger : Bool) (kind x : ℕ)
    → ((kind_wrong kind ≡ false) × (argument_wrong n trigger kind x ≡ false)) ↔ TermSound n trigger kind x
term_right n trigger kind x = (
  λ h.
      let p = simp (token_right, plain) at h in
      record { kinds = omega arith; point = λ q. omega (arith, p.1.0 q); last = p.1.1.0; token = p.1.1.1.0; job = p.1.1.1.1 },
  λ s. simp (token_right, plain) (omega arith, (λ q. omega (arith, s.point q), (s.last, (s.token, s.job)))),
)

-- jobs on both sides or on neither, and their bounds
job_right : (left right lower upper : ℕ)
    → ((right_kind_wrong left right ≡ false) × (job_bound_wrong left lower ≡ false) × (job_bound_wrong left upper ≡ false))
    ↔ ((kind_wrong right ≡ false) × JobSound left right lower upper)
job_right left right lower upper = (
  λ h.
      let p = simp plain at h in
      (simp plain p.0.0, record { both = p.0.1.0; back = λ q. either (ℕ_discrete left 4) (λ n. p.0.1.1 n q); low = p.1; high = p.2 }),
  λ s.
      let k = simp plain at s.0 in
      simp plain ((k, (s.1.both, λ n q. n (s.1.back q))), s.1.low, s.1.high),
)
  where
    either : Dec (left ≡ 4) → ((left ≡ 4 → ⊥) → ⊥) → left ≡ 4
    either (yes q) f = q
    either (no n) f = absurd (f n)

-- ---- the words of each table's record, in plain numbers and back

-- no word is wrong
abbrev Right : List Bool → Type 0
Right ws = (j : ℕ) → get_or ws j false ≡ false

listed : (ws : List Bool) → All (λ w. w ≡ false) ws → Right ws
listed ws h j = all_get (λ w. w ≡ false) false refl ws j h

module _ (e : ℕ) (b : List ℕ) (i : ℕ) where
  variable_right : Right (variable_tests e b i) ↔ VariableSound e b i
  variable_right =
      let r = range_right e b value_range i in
      (λ h. r.0 (h 0, h 1), λ s. listed (variable_tests e b i) ((r.1 s).0, ((r.1 s).1, tt)))

  value_right : Right (value_tests e b i) ↔ ValueSound e b i
  unfolding value_tests set_wrong
  value_right =
      let r = bounds_right 1 (word b (record_at e b 1 i)) (field e b 1 i 1) in (
        λ h. record { durations = r.0 (h 0, h 1); successors = leb-false _ _ (h 2) },
        λ s. let p = r.1 s.durations in listed (value_tests e b i) (p.0, (p.1, (lt-leb _ _ s.successors, tt))),
      )

  rule_right : count b 0 ≤ no_limit → Right (rule_tests e b i) ↔ RuleSound e b i
  rule_right l =
      let q = trigger_right e b (field e b 2 i 0) (field e b 2 i 1) l in
      let r = range_right e b alternative_range i in (
        λ h. record { trigger = q.0 (h 0, h 1); alternatives = r.0 (h 2, h 3) },
        λ s.
            let p = q.1 s.trigger in
            let a = r.1 s.alternatives in
            listed (rule_tests e b i) (p.0, (p.1, (a.0, (a.1, tt)))),
      )

  alternative_right : Right (alternative_tests e b i) ↔ AlternativeSound e b i
  alternative_right =
      let q = range_right e b name_range i in
      let r = range_right e b (ask_range e) i in (
        λ h. record { names = q.0 (h 0, h 1); asks = r.0 (h 2, h 3) },
        λ s.
            let p = q.1 s.names in
            let a = r.1 s.asks in
            listed (alternative_tests e b i) (p.0, (p.1, (a.0, (a.1, tt)))),
      )

  name_right : Right (name_tests e b i) ↔ NameSound e b i
  name_right =
      let r = exist_right e b (field e b 4 i 0) (field e b 4 i 1) in
      (λ h. r.0 (h 0, h 1), λ s. listed (name_tests e b i) ((r.1 s).0, ((r.1 s).1, tt)))

module _ (b : List ℕ) (at n : ℕ) (trigger : Bool) where
  atom_right : Right (atom_tests b at n trigger) ↔ AtomSound b at n trigger
  atom_right =
      let l = term_right n trigger (word b at) (word b (at + 1)) in
      let r = term_right n trigger (word b (at + 2)) (word b (at + 3)) in
      let d = bounds_right 0 (word b (at + 4)) (word b (at + 5)) in
      let j = job_right (word b at) (word b (at + 2)) (word b (at + 4)) (word b (at + 5)) in (
        λ h.
            let low = (or_right _ _).0 (h 4) in
            let high = (or_right _ _).0 (h 5) in
            let k = j.0 (h 2, low.1, high.1) in
            record { left = l.0 (h 0, h 1); right = r.0 (k.0, h 3); bounds = d.0 (low.0, high.0); jobs = k.1 },
        λ s.
            let p = l.1 s.left in
            let q = r.1 s.right in
            let x = d.1 s.bounds in
            let k = j.1 (q.0, s.jobs) in
            listed (atom_tests b at n trigger)
            (p.0, (p.1, (k.0, (q.1, ((or_right _ _).1 (x.0, k.1), ((or_right _ _).1 (x.1, k.2), tt)))))),
      )

  constraint_right : Right (constraint_tests b at n trigger) ↔ ConstraintSound b at n trigger
  constraint_right =
      let l = token_right n trigger (word b at) in
      let r = token_right n trigger (word b (at + 1)) in (
        λ h. let p = simp plain at (h 2) in record { left = l.0 (h 0); right = r.0 (h 1); some = omega arith; set = omega arith },
        λ s. listed (constraint_tests b at n trigger) (l.1 s.left, (r.1 s.right, (simp plain (omega arith), tt))),
      )

module _ (e : ℕ) (b : List ℕ) (i : ℕ) where
  -- table 5 holds atoms in a book, and constraints in a sheet
  book_tests : (e ≡ 2 → ⊥) → fifth_tests e b i ≡ atom_tests b (record_at e b 5 i) (names_at e b i) (trigger_at e b i)
  unfolding fifth_tests fifth_tests_of
  book_tests h = rw (ne_eqb e 2 h)

  sheet_tests : e ≡ 2 → fifth_tests e b i ≡ constraint_tests b (record_at e b 5 i) (names_at e b i) (trigger_at e b i)
  unfolding fifth_tests fifth_tests_of
  sheet_tests h = rw (eq-eqb e 2 h)

-- ---- the header's words

module _ (e : ℕ) (b : List ℕ) where
  edition_right : (header_wrong e b 0 ≡ false) ↔ (word b 0 ≡ e)
  unfolding header_wrong
  edition_right = simp plain Iff.rfl

  total_right : (header_wrong e b 1 ≡ false) ↔ (word b 1 ≡ length b)
  unfolding header_wrong
  total_right = simp plain Iff.rfl

  count_right : (t : ℕ) → (header_wrong e b (2 + 2 * t) ≡ false) ↔ ((fewest t ≤ count b t) × (count b t ≤ most t))
  unfolding header_wrong
  count_right t =
      let k : ℕ = 2 + 2 * t in
      let at : (2 + 2 * t - 2) / 2 ≡ t = omega arith in
      simp (ne_eqb k 0 (omega arith), ne_eqb k 1 (omega arith), eq-eqb (k % 2) 0 (omega arith), at, plain) (omega arith)

  offset_right : (t : ℕ) → (header_wrong e b (3 + 2 * t) ≡ false) ↔ (offset b t ≡ begins e b t)
  unfolding header_wrong
  offset_right t =
      let k : ℕ = 3 + 2 * t in
      let at : (3 + 2 * t - 2) / 2 ≡ t = omega arith in
      simp (ne_eqb k 0 (omega arith), ne_eqb k 1 (omega arith), ne_eqb (k % 2) 0 (omega arith), at, plain) Iff.rfl

  header_back : HeaderSound e b → (k : ℕ) → k < 14 → header_wrong e b k ≡ false
  header_back s zero l = edition_right.1 s.edition
  header_back s (suc zero) l = total_right.1 s.total
  header_back s (suc (suc k)) l =
      let t : ℕ = k / 2 in
      elim (ℕ_discrete (k % 2) 0) [
        | yes q ↦
            let at : suc (suc k) ≡ 2 + 2 * t = omega arith in
            rw at ((count_right t).1 (s.some t (omega arith), s.few t (omega arith)))
        | no n ↦
            let at : suc (suc k) ≡ 3 + 2 * t = omega arith in
            rw at ((offset_right t).1 (s.offsets t (omega arith)))
      ]

  header_right : ((k : ℕ) → k < 14 → header_wrong e b k ≡ false) → HeaderSound e b
  header_right h = record {
    edition = edition_right.0 (h 0 (omega arith));
    total = total_right.0 (h 1 (omega arith));
    some = λ t l. ((count_right t).0 (h (2 + 2 * t) (omega arith))).0;
    few = λ t l. ((count_right t).0 (h (2 + 2 * t) (omega arith))).1;
    offsets = λ t l. (offset_right t).0 (h (3 + 2 * t) (omega arith));
  }

-- ---- THE LAWS

-- no variable has the number N
few_variables : {e : ℕ} {b : List ℕ} → HeaderSound e b → count b 0 ≤ no_limit
few_variables h = omega (arith, h.few 0 (omega arith))

-- a good book is sound
pub sound : (e : ℕ) (b : List ℕ) → Good e b → Sound e b
unfolding leaves
sound e b g =
    let h = header_right e b g.header in
    let asks = simp plain at (g.used 3 (omega arith)) in
    record {
      long = g.long;
      short = g.short;
      header = h;
      whole = g.whole;
      variables = λ i l. (variable_right e b i).0 (g.words 0 (omega arith) i l);
      values = λ i l. (value_right e b i).0 (g.words 1 (omega arith) i l);
      rules = λ i l. (rule_right e b i (few_variables h)).0 (g.words 2 (omega arith) i l);
      alternatives = λ i l. (alternative_right e b i).0 (g.words 3 (omega arith) i l);
      names = λ i l. (name_right e b i).0 (g.words 4 (omega arith) i l);
      atoms = λ h i l. (atom_right b _ _ _).0 (rw (book_tests e b i h) at (g.words 5 (omega arith) i l));
      constraints = λ h i l. (constraint_right b _ _ _).0 (rw (sheet_tests e b i h) at (g.words 5 (omega arith) i l));
      values_used = simp plain at (g.used 0 (omega arith));
      alternatives_used = simp plain at (g.used 2 (omega arith));
      names_used = asks.0;
      asks_used = asks.1;
    }

-- and a sound book is good
pub sound_back : (e : ℕ) (b : List ℕ) → Sound e b → Good e b
unfolding leaves
sound_back e b s =
    record {
      long = s.long;
      short = s.short;
      header = header_back e b s.header;
      whole = s.whole;
      words =
          tables (λ t. (i : ℕ) → i < count b t → Right (record_tests e b t i))
          (λ i l. (variable_right e b i).1 (s.variables i l))
          (λ i l. (value_right e b i).1 (s.values i l))
          (λ i l. (rule_right e b i (few_variables s.header)).1 (s.rules i l))
          (λ i l. (alternative_right e b i).1 (s.alternatives i l))
          (λ i l. (name_right e b i).1 (s.names i l))
          (λ i l. elim (ℕ_discrete e 2) [
            | yes q ↦ rw (sheet_tests e b i q) ((constraint_right b _ _ _).1 (s.constraints q i l))
            | no n ↦ rw (book_tests e b i n) ((atom_right b _ _ _).1 (s.atoms n i l))
          ]);
      used =
          tables (λ t. leaves e b t ≡ false) (simp plain s.values_used) refl (simp plain s.alternatives_used)
          (simp plain (s.names_used, s.asks_used)) refl refl;
    }
