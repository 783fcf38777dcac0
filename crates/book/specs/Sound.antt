-- What a sound book is, in plain numbers, sentence by sentence of document 01. Assumes nothing.
use Rattle.std.specs.Prelude.{◌≡◌, Bool, true, ◌⊎◌, List, ℕ, ◌+◌, ◌^◌, ◌≤◌, ◌<◌, length}
use Rattle.words.specs.Words.{word}
use Rattle.clock.specs.Clock.{last_tick, no_limit}
use Rattle.layout.specs.Layout.{fewest, most, count, offset, ending, begins, record_at, field, ends, starts, owner, values_of}
use Rattle.records.specs.Wrong.{Range, value_range, alternative_range, name_range, ask_range, has_trigger}

-- "Ranges into the next table follow each other from 0 without gaps .. A record whose range starts elsewhere or runs past that table's
-- count is bad": the range r of record i
pub record RangeSound (e : ℕ) (b : List ℕ) (r : Range) (i : ℕ) : Type 0 where
  pub follows : field e b r.table i r.word ≡ starts e b r.table r.word i
  pub some : r.least ≤ field e b r.table i (r.word + 1)
  pub few : field e b r.table i (r.word + 1) ≤ r.most
  pub inside : ends e b r.table r.word i ≤ count b r.into

-- "Least is 1..1,000,000,000; greatest is least..1,000,000,000 or N", "Lower is 0..1,000,000,000; upper is lower..1,000,000,000 or N"
pub record BoundsSound (lo x y : ℕ) : Type 0 where
  pub from : lo ≤ x
  pub tick : x ≤ last_tick
  pub order : x ≤ y
  pub limit : (y ≤ last_tick) ⊎ (y ≡ no_limit)

-- "both exist": the variable v, and its value x
pub record Exist (e : ℕ) (b : List ℕ) (v x : ℕ) : Type 0 where
  pub variable : v < count b 0
  pub value : x < values_of e b v

-- "0 for the trigger or 1..n for the alternative's names; 0 is bad without a trigger"
pub record TokenSound (n : ℕ) (trigger : Bool) (x : ℕ) : Type 0 where
  pub named : x ≤ n
  pub triggered : x ≡ 0 → trigger ≡ true

-- "A term's kind is 0 start of, 1 end of, 2 time point. For 0 and 1 the argument is" a token. "A time point is 0..1,000,000,000". And
-- "kind 3, end of the plan, argument 0", "kind 4, job of (argument as in kind 0)"
pub record TermSound (n : ℕ) (trigger : Bool) (kind argument : ℕ) : Type 0 where
  pub kinds : kind ≤ 4
  pub point : kind ≡ 2 → argument ≤ last_tick
  pub last : kind ≡ 3 → argument ≡ 0
  pub token : kind < 2 → TokenSound n trigger argument
  pub job : kind ≡ 4 → TokenSound n trigger argument

-- kind 4 "stands on both sides of an atom or on neither .. and its bounds must be 0 and 0"
pub record JobSound (left right lower upper : ℕ) : Type 0 where
  pub both : left ≡ 4 → right ≡ 4
  pub back : right ≡ 4 → left ≡ 4
  pub low : left ≡ 4 → lower ≡ 0
  pub high : left ≡ 4 → upper ≡ 0

-- ---- the records of each table

-- "first value, number of values (1..32)"
abbrev pub VariableSound : ℕ → List ℕ → ℕ → Type 0
VariableSound e b i = RangeSound e b value_range i

-- "least duration, greatest, successor set .. no bit at or above the number of values"
pub record ValueSound (e : ℕ) (b : List ℕ) (i : ℕ) : Type 0 where
  pub durations : BoundsSound 1 (word b (record_at e b 1 i)) (field e b 1 i 1)
  pub successors : field e b 1 i 2 < 2 ^ values_of e b (owner e b 0 0 i)

-- "Trigger variable N means no trigger; the trigger value is then 0. Otherwise both exist"; "first alternative, number (1..64)"
pub record RuleSound (e : ℕ) (b : List ℕ) (i : ℕ) : Type 0 where
  pub trigger : ((field e b 2 i 0 ≡ no_limit) × (field e b 2 i 1 ≡ 0)) ⊎ Exist e b (field e b 2 i 0) (field e b 2 i 1)
  pub alternatives : RangeSound e b alternative_range i

-- "first name, number (0..4), first atom, number (0..32)", or "0..8" constraints
pub record AlternativeSound (e : ℕ) (b : List ℕ) (i : ℕ) : Type 0 where
  pub names : RangeSound e b name_range i
  pub asks : RangeSound e b (ask_range e) i

-- "both exist, as they must in a name"
abbrev pub NameSound : ℕ → List ℕ → ℕ → Type 0
NameSound e b i = Exist e b (field e b 4 i 0) (field e b 4 i 1)

-- how many names the alternative has that record i of table 5 belongs to, and whether its rule has a trigger
abbrev pub names_at : ℕ → List ℕ → ℕ → ℕ
names_at e b i = field e b 3 (owner e b 3 2 i) 1

abbrev pub trigger_at : ℕ → List ℕ → ℕ → Bool
trigger_at e b i = has_trigger e b (owner e b 2 2 (owner e b 3 2 i))

-- "left kind, left argument, right kind, right argument, lower, upper": the atom at a place, in an alternative with n names, whose rule
-- has a trigger or not
pub record AtomSound (b : List ℕ) (at n : ℕ) (trigger : Bool) : Type 0 where
  pub left : TermSound n trigger (word b at) (word b (at + 1))
  pub right : TermSound n trigger (word b (at + 2)) (word b (at + 3))
  pub bounds : BoundsSound 0 (word b (at + 4)) (word b (at + 5))
  pub jobs : JobSound (word b at) (word b (at + 2)) (word b (at + 4)) (word b (at + 5))

-- "left token, right token (0 the trigger, as above), and a set, 1..8,191"
pub record ConstraintSound (b : List ℕ) (at n : ℕ) (trigger : Bool) : Type 0 where
  pub left : TokenSound n trigger (word b at)
  pub right : TokenSound n trigger (word b (at + 1))
  pub some : 1 ≤ word b (at + 2)
  pub set : word b (at + 2) ≤ 8191

-- ---- header and whole

-- "edition 1; total words; then count and offset of tables 0 to 5 in turn. Table 0 begins at word 14, each next where the one before ends"
pub record HeaderSound (e : ℕ) (b : List ℕ) : Type 0 where
  pub edition : word b 0 ≡ e
  pub total : word b 1 ≡ length b
  pub some : (t : ℕ) → t < 6 → fewest t ≤ count b t
  pub few : (t : ℕ) → t < 6 → count b t ≤ most t
  pub offsets : (t : ℕ) → t < 6 → offset b t ≡ begins e b t

-- a book (edition 1) or a sheet (2): its length 14..16,384, its header, table 5 ends at the length, each record of each table is sound, and
-- "ranges .. use all of" the next table. Table 5 holds constraints in a sheet, and else atoms
pub record Sound (e : ℕ) (b : List ℕ) : Type 0 where
  pub long : 14 ≤ length b
  pub short : length b ≤ 16384
  pub header : HeaderSound e b
  pub whole : ending e b 5 ≡ length b
  pub variables : (i : ℕ) → i < count b 0 → VariableSound e b i
  pub values : (i : ℕ) → i < count b 1 → ValueSound e b i
  pub rules : (i : ℕ) → i < count b 2 → RuleSound e b i
  pub alternatives : (i : ℕ) → i < count b 3 → AlternativeSound e b i
  pub names : (i : ℕ) → i < count b 4 → NameSound e b i
  pub atoms : (e ≡ 2 → ⊥) → (i : ℕ) → i < count b 5 → AtomSound b (record_at e b 5 i) (names_at e b i) (trigger_at e b i)
  pub constraints : e ≡ 2 → (i : ℕ) → i < count b 5 → ConstraintSound b (record_at e b 5 i) (names_at e b i) (trigger_at e b i)
  pub values_used : starts e b 0 0 (count b 0) ≡ count b 1
  pub alternatives_used : starts e b 2 2 (count b 2) ≡ count b 3
  pub names_used : starts e b 3 0 (count b 3) ≡ count b 4
  pub asks_used : starts e b 3 2 (count b 3) ≡ count b 5
