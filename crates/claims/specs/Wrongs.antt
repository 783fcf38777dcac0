-- What is wrong with a book, a sheet or a plan, in plain facts, row by row of 1 to 7 of the fault table. WrongTests and RecordTests show that
-- the tests say just that. Assumes nothing.
use Rattle.std.specs.Prelude.{◌≡◌, ◌⊎◌, List, ℕ, ◌+◌, ◌*◌, ◌^◌, ◌≤◌, ◌<◌, length}
use Rattle.words.specs.Words.{word}
use Rattle.clock.specs.Clock.{last_tick, no_limit}
use Rattle.layout.specs.Layout.{fewest, most, width, count, offset, begins, record_at, field, ends, starts, owner, values_of}
use Rattle.records.specs.Wrong.{Range, value_range, alternative_range, name_range, ask_range}
use Rattle.book.specs.Sound.{names_at}
use Rattle.lines.specs.Lines.{line_first, line_count, token_width, line_of}
use Rattle.lines.specs.Ends.{line_end, plan_end}
use Rattle.lines.specs.Fault.{sum_before}
use Rattle.lines.specs.Good.{HeadGood}

-- ---- the first that is wrong

-- k is the first number below n that is wrong
pub record First (n : ℕ) (Wrong : ℕ → Type 0) (k : ℕ) : Type 0 where
  pub below : k < n
  pub here : Wrong k
  pub before : (j : ℕ) → j < k → Wrong j → ⊥

-- none below n is
abbrev pub None : ℕ → (ℕ → Type 0) → Type 0
None n Wrong = (k : ℕ) → k < n → Wrong k → ⊥

-- ---- what is wrong with a book or sheet

-- 1 "book length not 14..16,384"; otherwise
abbrev pub BookSized : List ℕ → Type 0
BookSized b = (14 ≤ length b) × (length b ≤ 16384)

-- 2 "header word wrong ..: edition, total against length, count limit, offset"
pub data HeaderWrong (e : ℕ) (b : List ℕ) : ℕ → Type 0 where
  edition : (word b 0 ≡ e → ⊥) → HeaderWrong e b 0
  total : (word b 1 ≡ length b → ⊥) → HeaderWrong e b 1
  few : (t : ℕ) → count b t < fewest t → HeaderWrong e b (2 + 2 * t)
  many : (t : ℕ) → most t < count b t → HeaderWrong e b (2 + 2 * t)
  elsewhere : (t : ℕ) → (offset b t ≡ begins e b t → ⊥) → HeaderWrong e b (3 + 2 * t)

-- "A record whose range starts elsewhere": its first word
abbrev pub StartWrong : ℕ → List ℕ → Range → ℕ → Type 0
StartWrong e b r i = field e b r.table i r.word ≡ starts e b r.table r.word i → ⊥

-- "or runs past that table's count": its number, which also is least..most
abbrev pub NumberWrong : ℕ → List ℕ → Range → ℕ → Type 0
NumberWrong e b r i =
    ((field e b r.table i (r.word + 1) < r.least) ⊎ (r.most < field e b r.table i (r.word + 1)))
    ⊎ (count b r.into < ends e b r.table r.word i)

-- the lower of two bounds x isn't lo..1,000,000,000; the upper y isn't x..1,000,000,000, nor N
abbrev pub LowerWrong : ℕ → ℕ → Type 0
LowerWrong lo x = (x < lo) ⊎ (last_tick < x)

abbrev pub UpperWrong : ℕ → ℕ → Type 0
UpperWrong x y = (y < x) ⊎ ((last_tick < y) × (y ≡ no_limit → ⊥))

-- "0 for the trigger or 1..n for the alternative's names; 0 is bad without a trigger": x is neither, v being the rule's trigger variable
abbrev pub NoToken : ℕ → ℕ → ℕ → Type 0
NoToken n v x = (n < x) ⊎ ((x ≡ 0) × (v ≡ no_limit))

-- "A time point is 0..1,000,000,000"; "kind 3, end of the plan, argument 0"; for 0 and 1 the argument is a token, and for 4 "as in kind 0"
abbrev pub ArgumentWrong : ℕ → ℕ → ℕ → ℕ → Type 0
ArgumentWrong n v kind x =
    ((kind ≡ 2) × (last_tick < x))
    ⊎ (((kind ≡ 3) × (x ≡ 0 → ⊥)) ⊎ (((kind < 2) × NoToken n v x) ⊎ ((kind ≡ 4) × NoToken n v x)))

-- there is no such kind, or kind 4 doesn't stand "on both sides of an atom or on neither"
abbrev pub RightKindWrong : ℕ → ℕ → Type 0
RightKindWrong left right = (4 < right) ⊎ (((left ≡ 4) × (right ≡ 4 → ⊥)) ⊎ ((left ≡ 4 → ⊥) × (right ≡ 4)))

-- of jobs "its bounds must be 0 and 0"
abbrev pub JobBoundWrong : ℕ → ℕ → Type 0
JobBoundWrong left x = (left ≡ 4) × (x ≡ 0 → ⊥)

-- the trigger variable of the rule that record i of table 5 belongs to
abbrev pub trigger_of : ℕ → List ℕ → ℕ → ℕ
trigger_of e b i = field e b 2 (owner e b 2 2 (owner e b 3 2 i)) 0

-- 4 what is wrong with which word of record i, by table and word, "given the words before it and the tables before"
pub data WordWrong (e : ℕ) (b : List ℕ) (i : ℕ) : ℕ → ℕ → Type 0 where
  -- "first value, number of values (1..32)"
  values_start : StartWrong e b value_range i → WordWrong e b i 0 0
  values_number : NumberWrong e b value_range i → WordWrong e b i 0 1
  -- "least duration, greatest, successor set"; "no bit at or above the number of values"
  least_duration : LowerWrong 1 (word b (record_at e b 1 i)) → WordWrong e b i 1 0
  greatest_duration : UpperWrong (word b (record_at e b 1 i)) (field e b 1 i 1) → WordWrong e b i 1 1
  successors : 2 ^ values_of e b (owner e b 0 0 i) ≤ field e b 1 i 2 → WordWrong e b i 1 2
  -- "trigger variable, trigger value, first alternative, number (1..64)"; "N means no trigger; the trigger value is then 0. Otherwise both exist"
  trigger_variable : (field e b 2 i 0 ≡ no_limit → ⊥) × (count b 0 ≤ field e b 2 i 0) → WordWrong e b i 2 0
  trigger_value :
      ((field e b 2 i 0 ≡ no_limit) × (field e b 2 i 1 ≡ 0 → ⊥))
      ⊎ ((field e b 2 i 0 ≡ no_limit → ⊥) × (values_of e b (field e b 2 i 0) ≤ field e b 2 i 1))
      → WordWrong e b i 2 1
  alternatives_start : StartWrong e b alternative_range i → WordWrong e b i 2 2
  alternatives_number : NumberWrong e b alternative_range i → WordWrong e b i 2 3
  -- "first name, number (0..4), first atom, number (0..32)", or "0..8" constraints
  names_start : StartWrong e b name_range i → WordWrong e b i 3 0
  names_number : NumberWrong e b name_range i → WordWrong e b i 3 1
  asks_start : StartWrong e b (ask_range e) i → WordWrong e b i 3 2
  asks_number : NumberWrong e b (ask_range e) i → WordWrong e b i 3 3
  -- "variable, value": "both exist, as they must in a name"
  name_variable : count b 0 ≤ field e b 4 i 0 → WordWrong e b i 4 0
  name_value : values_of e b (field e b 4 i 0) ≤ field e b 4 i 1 → WordWrong e b i 4 1
  -- a book's table 5: "left kind, left argument, right kind, right argument, lower, upper"
  left_kind : (e ≡ 2 → ⊥) → 4 < word b (record_at e b 5 i) → WordWrong e b i 5 0
  left_argument : (e ≡ 2 → ⊥) → ArgumentWrong (names_at e b i) (trigger_of e b i) (word b (record_at e b 5 i)) (field e b 5 i 1) → WordWrong e b i 5 1
  right_kind : (e ≡ 2 → ⊥) → RightKindWrong (word b (record_at e b 5 i)) (field e b 5 i 2) → WordWrong e b i 5 2
  right_argument : (e ≡ 2 → ⊥) → ArgumentWrong (names_at e b i) (trigger_of e b i) (field e b 5 i 2) (field e b 5 i 3) → WordWrong e b i 5 3
  lower : (e ≡ 2 → ⊥) → LowerWrong 0 (field e b 5 i 4) ⊎ JobBoundWrong (word b (record_at e b 5 i)) (field e b 5 i 4) → WordWrong e b i 5 4
  upper : (e ≡ 2 → ⊥) → UpperWrong (field e b 5 i 4) (field e b 5 i 5) ⊎ JobBoundWrong (word b (record_at e b 5 i)) (field e b 5 i 5) → WordWrong e b i 5 5
  -- a sheet's: "left token, right token (0 the trigger, as above), and a set, 1..8,191"
  left_token : e ≡ 2 → NoToken (names_at e b i) (trigger_of e b i) (word b (record_at e b 5 i)) → WordWrong e b i 5 0
  right_token : e ≡ 2 → NoToken (names_at e b i) (trigger_of e b i) (field e b 5 i 1) → WordWrong e b i 5 1
  relations : e ≡ 2 → (field e b 5 i 2 < 1) ⊎ (8191 < field e b 5 i 2) → WordWrong e b i 5 2

-- "bad record": some word of it is wrong
abbrev pub RecordWrong : ℕ → List ℕ → ℕ → ℕ → Type 0
RecordWrong e b t i = (j : ℕ) × WordWrong e b i t j

-- "don't use up the next table": variables their values, rules their alternatives, alternatives their names and what they ask
pub data Leaves (e : ℕ) (b : List ℕ) : ℕ → Type 0 where
  values : (starts e b 0 0 (count b 0) ≡ count b 1 → ⊥) → Leaves e b 0
  alternatives : (starts e b 2 2 (count b 2) ≡ count b 3 → ⊥) → Leaves e b 2
  names : (starts e b 3 0 (count b 3) ≡ count b 4 → ⊥) → Leaves e b 3
  asks : (starts e b 3 2 (count b 3) ≡ count b 5 → ⊥) → Leaves e b 3

-- table t has no bad record, and uses up the next
pub record TableGood (e : ℕ) (b : List ℕ) (t : ℕ) : Type 0 where
  pub records : None (count b t) (RecordWrong e b t)
  pub used : Leaves e b t → ⊥

-- "lowest record", and "the first word of the record, counted from 0, that is wrong"; "record = its count if all are good but don't use up
-- the next table", and "Where the record number equals the table's count, c is 0"
abbrev pub TableBad : ℕ → List ℕ → ℕ → ℕ → ℕ → Type 0
TableBad e b t i j =
    (First (count b t) (RecordWrong e b t) i × First (width e t) (WordWrong e b i t) j)
    ⊎ ((i ≡ count b t) × None (count b t) (RecordWrong e b t) × Leaves e b t × (j ≡ 0))

-- ---- what is wrong with a plan, before its tokens

-- 5 "plan length below 3 + 2 x variables, or above 16,384"; otherwise
abbrev pub PlanSized : List ℕ → List ℕ → Type 0
PlanSized b p = (3 + 2 * count b 0 ≤ length p) × (length p ≤ 16384)

-- 6 "first wrong word before the tokens": edition 1 or 2 ("any other edition is refused 6"), "total words, number of timelines (that of the
-- book's variables); then for each timeline its first token and token count (0..512)"
pub data HeadWrong (b p : List ℕ) : ℕ → Type 0 where
  edition : (word p 0 ≡ 1 → ⊥) → (word p 0 ≡ 2 → ⊥) → HeadWrong b p 0
  total : (word p 1 ≡ length p → ⊥) → HeadWrong b p 1
  timelines : (word p 2 ≡ count b 0 → ⊥) → HeadWrong b p 2
  first : (v : ℕ) → (line_first p v ≡ sum_before p v → ⊥) → HeadWrong b p (3 + 2 * v)
  many : (v : ℕ) → 512 < line_count p v → HeadWrong b p (4 + 2 * v)

-- 18 "timeline whose end differs from that of timeline 0"
abbrev pub EndsApart : List ℕ → ℕ → Type 0
EndsApart p v = line_end (line_of p v) ≡ plan_end (line_of p) → ⊥

-- not 5, 6, 7: the words of a plan before its tokens are right, and the tokens end at the length
pub record Tables (b p : List ℕ) : Type 0 where
  pub sized : PlanSized b p
  pub head : HeadGood b p
  pub whole : 3 + 2 * count b 0 + token_width p * sum_before p (count b 0) ≡ length p
