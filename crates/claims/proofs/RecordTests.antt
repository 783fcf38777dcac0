-- Row 4 of the fault table: the tests of a record's words say just what WordWrong says in plain numbers, so that the record that is told is
-- the lowest bad one, and the word its first wrong one. Assumes nothing.
use mathlib.Core.Path.{◌≡◌, refl, sym, ap, ◌∙◌, subst}
use mathlib.Core.Bool.{Bool, true, false, ◌||◌, ◌&&◌, not, true≢false, false≢true}
use mathlib.Core.Logic.{◌↔◌, ◌⊎◌, inl, inr, ⊎_elim}
use mathlib.Core.List.{List}
use Prim.Native.Nat.{ℕ, zero, suc, ◌+◌, ◌^◌, ◌≤◌, ◌<◌}
use native.Mathlib.Decide.{ℕ_discrete}
use native.Mathlib.Omega.{arith}
use lib.Dec.{ltb, eqb}
use lib.ListN.{get_or}
use borrow.Author.Tests.{ltb-true, lt-ltb, le-ltb, eq-eqb, ne_eqb}
use Rattle.words.specs.Words.{word}
use Rattle.clock.specs.Clock.{last_tick, no_limit}
use Rattle.layout.specs.Layout.{width, count, record_at, field, ends, owner, values_of}
use Rattle.layout.proofs.Bounds.{tables}
use Rattle.layout.proofs.Tests.{or_right, le_so, eq_so}
use Rattle.records.specs.Wrong.{Range, value_range, alternative_range, name_range, ask_range, number_wrong, lower_wrong, upper_wrong, set_wrong, trigger_variable_wrong, trigger_value_wrong, token_wrong, right_kind_wrong, argument_wrong, job_bound_wrong, variable_tests, value_tests, rule_tests, alternative_tests, name_tests, fifth_tests_of, fifth_tests, record_tests, record_wrong}
use Rattle.records.proofs.Words.{first_word, record_right}
use Rattle.book.specs.Fault.{leaves, lowest, table_wrong, told_word}
use Rattle.book.specs.Sound.{names_at}
use Rattle.claims.specs.Wrongs.{First, NumberWrong, LowerWrong, UpperWrong, NoToken, ArgumentWrong, RightKindWrong, JobBoundWrong, trigger_of, WordWrong, values_start, values_number, least_duration, greatest_duration, successors, trigger_variable, trigger_value, alternatives_start, alternatives_number, names_start, names_number, asks_start, asks_number, name_variable, name_value, left_kind, left_argument, right_kind, right_argument, lower, upper, left_token, right_token, relations, RecordWrong, Leaves, TableGood, TableBad}
use Rattle.claims.proofs.WrongTests.{or_so, not_eq, unless, otherwise, none_is, first-is, none-least, leaves_iff}
use Rattle.claims.proofs.Matched.{and_so}

-- ---- the tests, one by one

or_iff : {a c : Bool} {P Q : Type 0} → ((a ≡ true) ↔ P) → ((c ≡ true) ↔ Q) → ((a || c) ≡ true) ↔ (P ⊎ Q)
or_iff {a} {c} p q = (
  λ h. ⊎_elim (λ x. inl (p.0 x)) (λ y. inr (q.0 y)) ((or_so a c).0 h),
  λ h. (or_so a c).1 (⊎_elim (λ x. inl (p.1 x)) (λ y. inr (q.1 y)) h),
)

and_iff : {a c : Bool} {P Q : Type 0} → ((a ≡ true) ↔ P) → ((c ≡ true) ↔ Q) → ((a && c) ≡ true) ↔ (P × Q)
and_iff {a} {c} p q = (
  λ h. let r = (and_so a c).0 h in (p.0 r.0, q.0 r.1),
  λ h. (and_so a c).1 (p.1 h.0, q.1 h.1),
)

lt_so : (x y : ℕ) → (ltb x y ≡ true) ↔ (x < y)
lt_so x y = (ltb-true x y, lt-ltb x y)

number_so : (e : ℕ) (b : List ℕ) (r : Range) (i : ℕ) → (number_wrong e b r i ≡ true) ↔ NumberWrong e b r i
number_so e b r i =
    let n : ℕ = field e b r.table i (r.word + 1) in
    or_iff (or_iff (lt_so n r.least) (lt_so r.most n)) (lt_so (count b r.into) (ends e b r.table r.word i))

lower_so : (lo x : ℕ) → (lower_wrong lo x ≡ true) ↔ LowerWrong lo x
lower_so lo x = or_iff (lt_so x lo) (lt_so last_tick x)

upper_so : (x y : ℕ) → (upper_wrong x y ≡ true) ↔ UpperWrong x y
upper_so x y = or_iff (lt_so y x) (and_iff (lt_so last_tick y) (not_eq y no_limit))

-- a rule without trigger
no_trigger : (v : ℕ) → (not (not (eqb v no_limit)) ≡ true) ↔ (v ≡ no_limit)
no_trigger v = by (eqb v no_limit) (eq_so v no_limit)
  where
    by : (t : Bool) → ((t ≡ true) ↔ (v ≡ no_limit)) → (not (not t) ≡ true) ↔ (v ≡ no_limit)
    by true h = h
    by false h = h

token_so : (n v x : ℕ) → (token_wrong n (not (eqb v no_limit)) x ≡ true) ↔ NoToken n v x
token_so n v x = or_iff (lt_so n x) (and_iff (eq_so x 0) (no_trigger v))

argument_so : (n v kind x : ℕ) → (argument_wrong n (not (eqb v no_limit)) kind x ≡ true) ↔ ArgumentWrong n v kind x
argument_so n v kind x =
    or_iff (and_iff (eq_so kind 2) (lt_so last_tick x))
    (or_iff (and_iff (eq_so kind 3) (not_eq x 0)) (or_iff (and_iff (lt_so kind 2) (token_so n v x)) (and_iff (eq_so kind 4) (token_so n v x))))

right_so : (left right : ℕ) → (right_kind_wrong left right ≡ true) ↔ RightKindWrong left right
right_so left right =
    or_iff (lt_so 4 right) (or_iff (and_iff (eq_so left 4) (not_eq right 4)) (and_iff (not_eq left 4) (eq_so right 4)))

job_so : (left x : ℕ) → (job_bound_wrong left x ≡ true) ↔ JobBoundWrong left x
job_so left x = and_iff (eq_so left 4) (not_eq x 0)

low_so : (left x : ℕ) → ((lower_wrong 0 x || job_bound_wrong left x) ≡ true) ↔ (LowerWrong 0 x ⊎ JobBoundWrong left x)
low_so left x = or_iff (lower_so 0 x) (job_so left x)

high_so : (left x y : ℕ) → ((upper_wrong x y || job_bound_wrong left y) ≡ true) ↔ (UpperWrong x y ⊎ JobBoundWrong left y)
high_so left x y = or_iff (upper_so x y) (job_so left y)

variable_so : (b : List ℕ) (v : ℕ) → (trigger_variable_wrong b v ≡ true) ↔ ((v ≡ no_limit → ⊥) × (count b 0 ≤ v))
variable_so b v = and_iff (not_eq v no_limit) (le_so (count b 0) v)

value_so : (e : ℕ) (b : List ℕ) (v x : ℕ)
    → (trigger_value_wrong e b v x ≡ true) ↔ (((v ≡ no_limit) × (x ≡ 0 → ⊥)) ⊎ ((v ≡ no_limit → ⊥) × (values_of e b v ≤ x)))
value_so e b v x = or_iff (and_iff (eq_so v no_limit) (not_eq x 0)) (and_iff (not_eq v no_limit) (le_so (values_of e b v) x))

relations_so : (x : ℕ) → ((ltb x 1 || ltb 8191 x) ≡ true) ↔ ((x < 1) ⊎ (8191 < x))
relations_so x = or_iff (lt_so x 1) (lt_so 8191 x)

-- ---- the words of record i of each table

module _ (e : ℕ) (b : List ℕ) (i : ℕ) where
  variable_to : (j : ℕ) → get_or (variable_tests e b i) j false ≡ true → WordWrong e b i 0 j
  variable_to zero h = values_start ((not_eq _ _).0 h)
  variable_to (suc zero) h = values_number ((number_so e b value_range i).0 h)
  variable_to (suc (suc j)) h = absurd (false≢true h)

  value_to : (j : ℕ) → get_or (value_tests e b i) j false ≡ true → WordWrong e b i 1 j
  unfolding value_tests set_wrong
  value_to zero h = least_duration ((lower_so 1 (word b (record_at e b 1 i))).0 h)
  value_to (suc zero) h = greatest_duration ((upper_so (word b (record_at e b 1 i)) (field e b 1 i 1)).0 h)
  value_to (suc (suc zero)) h = successors ((le_so (2 ^ values_of e b (owner e b 0 0 i)) (field e b 1 i 2)).0 h)
  value_to (suc (suc (suc j))) h = absurd (false≢true h)

  rule_to : (j : ℕ) → get_or (rule_tests e b i) j false ≡ true → WordWrong e b i 2 j
  rule_to zero h = trigger_variable ((variable_so b (field e b 2 i 0)).0 h)
  rule_to (suc zero) h = trigger_value ((value_so e b (field e b 2 i 0) (field e b 2 i 1)).0 h)
  rule_to (suc (suc zero)) h = alternatives_start ((not_eq _ _).0 h)
  rule_to (suc (suc (suc zero))) h = alternatives_number ((number_so e b alternative_range i).0 h)
  rule_to (suc (suc (suc (suc j)))) h = absurd (false≢true h)

  alternative_to : (j : ℕ) → get_or (alternative_tests e b i) j false ≡ true → WordWrong e b i 3 j
  alternative_to zero h = names_start ((not_eq _ _).0 h)
  alternative_to (suc zero) h = names_number ((number_so e b name_range i).0 h)
  alternative_to (suc (suc zero)) h = asks_start ((not_eq _ _).0 h)
  alternative_to (suc (suc (suc zero))) h = asks_number ((number_so e b (ask_range e) i).0 h)
  alternative_to (suc (suc (suc (suc j)))) h = absurd (false≢true h)

  name_to : (j : ℕ) → get_or (name_tests e b i) j false ≡ true → WordWrong e b i 4 j
  name_to zero h = name_variable ((le_so (count b 0) (field e b 4 i 0)).0 h)
  name_to (suc zero) h = name_value ((le_so (values_of e b (field e b 4 i 0)) (field e b 4 i 1)).0 h)
  name_to (suc (suc j)) h = absurd (false≢true h)

  abbrev at : ℕ
  at = record_at e b 5 i

  atom_to : (e ≡ 2 → ⊥) → (j : ℕ) → get_or (fifth_tests e b i) j false ≡ true → WordWrong e b i 5 j
  unfolding fifth_tests fifth_tests_of
  atom_to n zero h = left_kind n ((lt_so 4 (word b at)).0 (rw (ne_eqb e 2 n) at h))
  atom_to n (suc zero) h = left_argument n ((argument_so (names_at e b i) (trigger_of e b i) (word b at) (word b (at + 1))).0 (rw (ne_eqb e 2 n) at h))
  atom_to n (suc (suc zero)) h = right_kind n ((right_so (word b at) (word b (at + 2))).0 (rw (ne_eqb e 2 n) at h))
  atom_to n (suc (suc (suc zero))) h =
      right_argument n ((argument_so (names_at e b i) (trigger_of e b i) (word b (at + 2)) (word b (at + 3))).0 (rw (ne_eqb e 2 n) at h))
  atom_to n (suc (suc (suc (suc zero)))) h = lower n ((low_so (word b at) (word b (at + 4))).0 (rw (ne_eqb e 2 n) at h))
  atom_to n (suc (suc (suc (suc (suc zero))))) h = upper n ((high_so (word b at) (word b (at + 4)) (word b (at + 5))).0 (rw (ne_eqb e 2 n) at h))
  atom_to n (suc (suc (suc (suc (suc (suc j)))))) h = absurd (false≢true (rw (ne_eqb e 2 n) at h))

  constraint_to : e ≡ 2 → (j : ℕ) → get_or (fifth_tests e b i) j false ≡ true → WordWrong e b i 5 j
  unfolding fifth_tests fifth_tests_of
  constraint_to q zero h = left_token q ((token_so (names_at e b i) (trigger_of e b i) (word b at)).0 (rw (eq-eqb e 2 q) at h))
  constraint_to q (suc zero) h = right_token q ((token_so (names_at e b i) (trigger_of e b i) (word b (at + 1))).0 (rw (eq-eqb e 2 q) at h))
  constraint_to q (suc (suc zero)) h = relations q ((relations_so (word b (at + 2))).0 (rw (eq-eqb e 2 q) at h))
  constraint_to q (suc (suc (suc j))) h = absurd (false≢true (rw (eq-eqb e 2 q) at h))

  fifth_to : (j : ℕ) → get_or (fifth_tests e b i) j false ≡ true → WordWrong e b i 5 j
  fifth_to j h = elim (ℕ_discrete e 2) [ yes q ↦ constraint_to q j h | no n ↦ atom_to n j h ]

  word-from : {t j : ℕ} → WordWrong e b i t j → get_or (record_tests e b t i) j false ≡ true
  unfolding value_tests set_wrong fifth_tests fifth_tests_of
  word-from (values_start h) = (not_eq _ _).1 h
  word-from (values_number h) = (number_so e b value_range i).1 h
  word-from (least_duration h) = (lower_so 1 (word b (record_at e b 1 i))).1 h
  word-from (greatest_duration h) = (upper_so (word b (record_at e b 1 i)) (field e b 1 i 1)).1 h
  word-from (successors h) = (le_so (2 ^ values_of e b (owner e b 0 0 i)) (field e b 1 i 2)).1 h
  word-from (trigger_variable h) = (variable_so b (field e b 2 i 0)).1 h
  word-from (trigger_value h) = (value_so e b (field e b 2 i 0) (field e b 2 i 1)).1 h
  word-from (alternatives_start h) = (not_eq _ _).1 h
  word-from (alternatives_number h) = (number_so e b alternative_range i).1 h
  word-from (names_start h) = (not_eq _ _).1 h
  word-from (names_number h) = (number_so e b name_range i).1 h
  word-from (asks_start h) = (not_eq _ _).1 h
  word-from (asks_number h) = (number_so e b (ask_range e) i).1 h
  word-from (name_variable h) = (le_so (count b 0) (field e b 4 i 0)).1 h
  word-from (name_value h) = (le_so (values_of e b (field e b 4 i 0)) (field e b 4 i 1)).1 h
  word-from (left_kind n h) = rw (ne_eqb e 2 n) ((lt_so 4 (word b at)).1 h)
  word-from (left_argument n h) = rw (ne_eqb e 2 n) ((argument_so (names_at e b i) (trigger_of e b i) (word b at) (word b (at + 1))).1 h)
  word-from (right_kind n h) = rw (ne_eqb e 2 n) ((right_so (word b at) (word b (at + 2))).1 h)
  word-from (right_argument n h) = rw (ne_eqb e 2 n) ((argument_so (names_at e b i) (trigger_of e b i) (word b (at + 2)) (word b (at + 3))).1 h)
  word-from (lower n h) = rw (ne_eqb e 2 n) ((low_so (word b at) (word b (at + 4))).1 h)
  word-from (upper n h) = rw (ne_eqb e 2 n) ((high_so (word b at) (word b (at + 4)) (word b (at + 5))).1 h)
  word-from (left_token q h) = rw (eq-eqb e 2 q) ((token_so (names_at e b i) (trigger_of e b i) (word b at)).1 h)
  word-from (right_token q h) = rw (eq-eqb e 2 q) ((token_so (names_at e b i) (trigger_of e b i) (word b (at + 1))).1 h)
  word-from (relations q h) = rw (eq-eqb e 2 q) ((relations_so (word b (at + 2))).1 h)

  -- THE LAW: each word's test
  pub word_iff : (t : ℕ) → t < 6 → (j : ℕ) → (get_or (record_tests e b t i) j false ≡ true) ↔ WordWrong e b i t j
  word_iff t l j = (
    tables (λ t. (j : ℕ) → get_or (record_tests e b t i) j false ≡ true → WordWrong e b i t j) variable_to value_to rule_to alternative_to name_to fifth_to
        t l j,
    word-from,
  )

-- ---- which record and which word are told

module _ (e : ℕ) (b : List ℕ) (t : ℕ) (l : t < 6) where
  -- a record is wrong where one of its words is
  record_iff : (i : ℕ) → (record_wrong e b t i ≡ true) ↔ RecordWrong e b t i
  unfolding record_wrong
  record_iff i = (
    λ h.
        let f = (first-is (width e t) (λ j. get_or (record_tests e b t i) j false) (WordWrong e b i t) (word_iff e b i t l) _).0 (rw (first_word e b t i l) at h, refl) in
        (_, f.here),
    λ w. (otherwise (record_wrong e b t i) _ (record_right e b t i l)).1 (λ right. true≢false (sym ((word_iff e b i t l _).1 w.1) ∙ right w.0)),
  )

  -- the first of them is the word that is told of it
  told_is : (i : ℕ) → i < count b t → RecordWrong e b t i → (j : ℕ) → (told_word e b t i ≡ j) ↔ First (width e t) (WordWrong e b i t) j
  unfolding record_wrong told_word
  told_is i k w j =
      let p : ℕ → Bool = λ j. get_or (record_tests e b t i) j false in
      let f = first-is (width e t) p (WordWrong e b i t) (word_iff e b i t l) j in
      let first = first_word e b t i l in
      rw (lt-ltb i (count b t) k) (λ h. f.0 (rw first at ((record_iff i).1 w), sym first ∙ h), λ g. first ∙ (f.1 g).1)

  -- of the table's count 0 is told
  told_none : (i : ℕ) → count b t ≤ i → told_word e b t i ≡ 0
  unfolding told_word
  told_none i k = rw (le-ltb i (count b t) k)

  -- THE LAWS: all is right in a table,
  pub table_good : (table_wrong e b t ≡ false) ↔ TableGood e b t
  unfolding table_wrong
  table_good =
      let o = or_right (ltb (lowest e b t) (count b t)) (leaves e b t) in
      let n = none_is (count b t) (record_wrong e b t) (RecordWrong e b t) record_iff in
      let u = unless (leaves e b t) (Leaves e b t) (leaves_iff e b t) in (
        λ h. record { records = n.0 (o.0 h).0; used = u.0 (o.0 h).1 },
        λ g. o.1 (n.1 g.records, u.1 g.used),
      )

  -- or this record and word are told
  pub table_bad : (i j : ℕ) → ((table_wrong e b t ≡ true) × (lowest e b t ≡ i) × (told_word e b t (lowest e b t) ≡ j)) ↔ TableBad e b t i j
  unfolding table_wrong
  table_bad i j =
      let o = or_so (ltb (lowest e b t) (count b t)) (leaves e b t) in
      let f = first-is (count b t) (record_wrong e b t) (RecordWrong e b t) record_iff i in (
        λ h. by (ltb (lowest e b t) (count b t)) refl h.1 h.2 (o.0 h.0),
        λ h.
            ⊎_elim
            (λ q.
            let r = f.1 q.0 in
            (o.1 (inl r.0), r.1, ap (told_word e b t) r.1 ∙ (told_is i q.0.below q.0.here j).1 q.1))
            (λ q.
            let n = none-least (count b t) (record_wrong e b t) (RecordWrong e b t) record_iff q.1 in
            (o.1 (inr ((leaves_iff e b t).1 q.2)), n ∙ sym q.0, told_none (lowest e b t) (omega arith) ∙ sym q.3))
            h,
      )
    where
      by : (x : Bool) → ltb (lowest e b t) (count b t) ≡ x → lowest e b t ≡ i → told_word e b t (lowest e b t) ≡ j
          → (ltb (lowest e b t) (count b t) ≡ true) ⊎ (leaves e b t ≡ true) → TableBad e b t i j
      by true q s d h =
          let f = (first-is (count b t) (record_wrong e b t) (RecordWrong e b t) record_iff (lowest e b t)).0 (q, refl) in
          let g = (told_is (lowest e b t) f.below f.here j).0 d in
          inl (subst (λ (k : ℕ). First (count b t) (RecordWrong e b t) k × First (width e t) (WordWrong e b k t) j) s (f, g))
      by false q s d h =
          let none = (none_is (count b t) (record_wrong e b t) (RecordWrong e b t) record_iff).0 q in
          let n = none-least (count b t) (record_wrong e b t) (RecordWrong e b t) record_iff none in
          inr (
            sym s ∙ n,
            none,
            ⊎_elim (λ r. absurd (true≢false (sym r ∙ q))) (λ r. (leaves_iff e b t).0 r) h,
            sym d ∙ told_none (lowest e b t) (omega arith),
          )
