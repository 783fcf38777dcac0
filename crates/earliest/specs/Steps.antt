-- What the functions on the way show of each other: bounds put into a table, and times copied into lent words. No caller of the crate sees
-- these. Assumes nothing.
use Rattle.std.specs.Prelude.{◌≡◌, Bool, true, false, cond, eqb, ◌↔◌, List, ℕ, ◌+◌, ◌*◌, ◌≤◌, ◌<◌, length, get_or, Option, None, Some, IfSome}
use Rattle.words.specs.Words.{word}
use Rattle.clock.specs.Clock.{no_limit, last_tick, in_bounds}
use Rattle.layout.specs.Layout.{offset, record_at, field, owner}
use Rattle.book.specs.Rules.{atom_at}
use Rattle.bounds.specs.Bounds.{Holds, Meets, reach, Within, Floored, times}
use Rattle.earliest.specs.declared.Term.{Term}
use Rattle.earliest.specs.declared.Trigger.{Trigger}
use Rattle.earliest.specs.declared.Places.{Places}
use Rattle.earliest.specs.Times.{Times, time_of, AtomMet, Lasting, Yes, No}

-- ---- the table's times

-- time 0 is 0; start and end of token k (0 the trigger, 1 to 4 the names) are the times 2 k + 1 and 2 k + 2; the plan's end is time 11
abbrev pub times_of : (ℕ → ℕ) → Times
times_of z = record { start = λ k. z (2 * k + 1); end = λ k. z (2 * k + 2); plan_end = z 11 }

-- the times of a list of twelve
abbrev pub table_times : List ℕ → Times
table_times l = times_of (times l)

-- a table that bounds can be put into
pub record Open (w : List ℕ) : Type 0 where
  pub size : length w ≡ 144
  pub near : Within (reach 12) w
  pub floored : Floored w

-- v says what w says and P
pub record Added (P : (ℕ → ℕ) → Type 0) (w v : List ℕ) : Type 0 where
  pub fresh : Open v
  pub says : (z : ℕ → ℕ) → z 0 ≡ 0 → Meets v z ↔ (Meets w z × P z)

-- the table says no more than that no time is below 0
pub record Blank (w : List ℕ) : Type 0 where
  pub fresh : Open w
  pub says : (z : ℕ → ℕ) → z 0 ≡ 0 → Meets w z

-- the bound e from time i to time j
abbrev pub Bound : ℕ → ℕ → ℕ → (ℕ → ℕ) → Type 0
Bound i j e z = Holds e (z i) (z j)

-- the time of a term of the table
abbrev pub time_at : Term → (ℕ → ℕ) → ℕ
time_at t z = z t.slot + t.tick

-- the term is one of the twelve times, and at most the last tick later
pub record TermFits (t : Term) : Type 0 where
  pub below : t.slot < 12
  pub small : t.tick ≤ last_tick

-- right minus left is within the bounds
abbrev pub Apart : Term → Term → ℕ → ℕ → (ℕ → ℕ) → Type 0
Apart left right lower upper z = in_bounds no_limit (time_at left z) (time_at right z) lower upper ≡ true

-- ---- what is put, and what a sound book says of it

-- a least or lower number, and a greatest or upper one, which may be the mark
pub record LimitsFit (lower upper : ℕ) : Type 0 where
  pub low : lower ≤ last_tick
  pub most : upper ≤ no_limit
  pub high : (upper ≡ no_limit → ⊥) → upper ≤ last_tick

-- kind and argument of a term that speaks of a time
pub record KindFits (kind k : ℕ) : Type 0 where
  pub kinds : kind ≤ 3
  pub point : kind ≡ 2 → k ≤ last_tick
  pub token : kind < 2 → k ≤ 4

-- the term t has its time
pub record IsTerm (kind k : ℕ) (t : Term) : Type 0 where
  pub fits : TermFits t
  pub is : (z : ℕ → ℕ) → z 0 ≡ 0 → time_of (times_of z) kind k ≡ time_at t z

pub record TimedFits (b : List ℕ) (at : ℕ) : Type 0 where
  pub left : KindFits (word b at) (word b (at + 1))
  pub right : KindFits (word b (at + 2)) (word b (at + 3))
  pub limits : LimitsFit (word b (at + 4)) (word b (at + 5))

-- the atom at a place, unless it is one of jobs
abbrev pub AtomFits : List ℕ → ℕ → Type 0
AtomFits b at = (word b at ≡ 4 → ⊥) → TimedFits b at

abbrev pub AtomTimes : List ℕ → ℕ → (ℕ → ℕ) → Type 0
AtomTimes b at z = AtomMet (atom_at b at) (times_of z)

-- the n atoms from a place on
abbrev pub AtomsTimed : List ℕ → ℕ → ℕ → (ℕ → ℕ) → Type 0
AtomsTimed b at n z = (i : ℕ) → i < n → AtomTimes b (at + i * 6) z

-- where value v of variable u stands
abbrev pub value_place : List ℕ → ℕ → ℕ → ℕ
value_place b u v = offset b 1 + 3 * (word b (offset b 0 + 2 * u) + v)

abbrev pub NameFits : List ℕ → ℕ → ℕ → Type 0
NameFits b u v = LimitsFit (word b (value_place b u v)) (word b (value_place b u v + 1))

-- the times of token k, of value v of variable u
abbrev pub Named : List ℕ → ℕ → ℕ → ℕ → (ℕ → ℕ) → Type 0
Named b k u v z = Lasting (word b (value_place b u v)) (word b (value_place b u v + 1)) k (times_of z)

-- and of the n names from a place on, which are the tokens 1, 2, ..
abbrev pub NamesTimed : List ℕ → ℕ → ℕ → (ℕ → ℕ) → Type 0
NamesTimed b at n z = (i : ℕ) → i < n → Named b (i + 1) (word b (at + i * 2)) (word b (at + i * 2 + 1)) z

-- the same of the trigger, if there is one
abbrev pub TriggerFits : List ℕ → Option Trigger → Type 0
TriggerFits b trigger = IfSome trigger (λ t. NameFits b t.variable t.value)

abbrev pub Triggered : List ℕ → Option Trigger → (ℕ → ℕ) → Type 0
Triggered b trigger z = IfSome trigger (λ t. Named b 0 t.variable t.value z)

-- ---- a whole alternative

-- a rule's trigger, of its first two words: none where the first is the mark
abbrev pub trigger_at : ℕ → ℕ → Option Trigger
trigger_at variable value = cond (eqb variable no_limit) None (Some (record { variable = variable; value = value }))

-- the trigger of the rule that alternative a belongs to
abbrev pub trigger_of : List ℕ → ℕ → Option Trigger
trigger_of b a = trigger_at (word b (record_at 1 b 2 (owner 1 b 2 2 a))) (field 1 b 2 (owner 1 b 2 2 a) 1)

-- where its names and atoms are, and how many
abbrev pub places_of : List ℕ → ℕ → Places
places_of b a =
    record {
      name = offset b 4 + 2 * word b (record_at 1 b 3 a);
      names = word b (record_at 1 b 3 a + 1);
      atom = offset b 5 + 6 * word b (record_at 1 b 3 a + 2);
      atoms = word b (record_at 1 b 3 a + 3);
    }

-- all of them can be put
pub record Fits (b : List ℕ) (t : Option Trigger) (p : Places) : Type 0 where
  pub trigger : TriggerFits b t
  pub few : p.names ≤ 4
  pub near : (p.name < 1048576) × (p.atom + p.atoms * 6 < 1048576)
  pub names : (i : ℕ) → i < p.names → NameFits b (word b (p.name + i * 2)) (word b (p.name + i * 2 + 1))
  pub atoms : (i : ℕ) → i < p.atoms → AtomFits b (p.atom + i * 6)

-- what they ask of the times
pub record Asked (b : List ℕ) (t : Option Trigger) (p : Places) (z : ℕ → ℕ) : Type 0 where
  pub trigger : Triggered b t z
  pub names : NamesTimed b p.name p.names z
  pub atoms : AtomsTimed b p.atom p.atoms z

-- the table says just that
pub record Filled (b : List ℕ) (t : Option Trigger) (p : Places) (w : List ℕ) : Type 0 where
  pub fresh : Open w
  pub says : (z : ℕ → ℕ) → z 0 ≡ 0 → Meets w z ↔ Asked b t p z

-- the least times that P asks for, or that there are none
pub record Least (P : (ℕ → ℕ) → Type 0) (r : Bool) (x : List ℕ) : Type 0 where
  pub meets : r ≡ true → P (times x)
  pub least : r ≡ true → (y : ℕ → ℕ) → y 0 ≡ 0 → P y → (i : ℕ) → i < 12 → times x i ≤ y i
  pub none : r ≡ false → (y : ℕ → ℕ) → y 0 ≡ 0 → P y → ⊥

-- yes or no, of alternative a
pub record Decided (b : List ℕ) (a : ℕ) (r : Bool) (before after : List ℕ) : Type 0 where
  pub could : r ≡ true → Yes b a before after
  pub could_not : r ≡ false → No b a before after

-- ---- copying

-- where the i-th of the times that are shown stands in the table: of n tokens from token k on
pub record ShownAt (x : List ℕ) (k n i r : ℕ) : Type 0 where
  pub token : i < 2 * n → r ≡ times x (2 * k + 1 + i)
  pub last : i ≡ 2 * n → r ≡ times x 11

-- the first n words are f's, as far as there are any, and the others as they were
pub record Copied (f : ℕ → ℕ) (n : ℕ) (before after : List ℕ) : Type 0 where
  pub long : length after ≡ length before
  pub here : (i : ℕ) → i < n → i < length before → get_or after i 0 ≡ f i
  pub rest : (i : ℕ) → n ≤ i → get_or after i 0 ≡ get_or before i 0
