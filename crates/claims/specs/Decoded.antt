-- What the theorems of proofs/Decoded are said in. Assumes nothing.
use Rattle.std.specs.Prelude.{◌≡◌, Bool, not, ◌⊎◌, List, ℕ, ◌+◌, ◌*◌, ◌≤◌, ◌<◌, length, eqb}
use Rattle.words.specs.Lists.{All}
use Rattle.clock.specs.Clock.{no_limit}
use Rattle.layout.specs.Layout.{fifth_most, count, offset, field}
use Rattle.book.specs.Rules.{Name, Constraint, Alternative, Rule, Fifth}
use Rattle.book.specs.Sound.{Exist, NameSound, TokenSound, names_at, trigger_at}

-- "Trigger variable N means no trigger; the trigger value is then 0. Otherwise both exist"
abbrev pub TriggerFine : ℕ → List ℕ → ℕ → ℕ → Type 0
TriggerFine e b v x = ((v ≡ no_limit) × (x ≡ 0)) ⊎ Exist e b v x

-- "both exist, as they must in a name"
abbrev pub NameFine : ℕ → List ℕ → Name → Type 0
NameFine e b n = Exist e b n.variable n.value

-- an alternative, and a rule, of the book b (edition e); Ask says of what an alternative asks that it is as it must be in an alternative
-- with so many names, whose rule has a trigger or not
pub record AlternativeFine {C : Type 0} (Ask : ℕ → Bool → C → Type 0) (e : ℕ) (b : List ℕ) (trigger : Bool) (a : Alternative C) : Type 0 where
  pub few_names : length a.names ≤ 4
  pub few_asks : length a.asks ≤ fifth_most e
  pub names : All (NameFine e b) a.names
  pub asks : All (Ask (length a.names) trigger) a.asks

pub record RuleFine {C : Type 0} (Ask : ℕ → Bool → C → Type 0) (e : ℕ) (b : List ℕ) (r : Rule C) : Type 0 where
  pub trigger : TriggerFine e b r.variable r.value
  pub some : 1 ≤ length r.alternatives
  pub few : length r.alternatives ≤ 64
  pub alternatives : All (AlternativeFine Ask e b (not (eqb r.variable no_limit))) r.alternatives

-- the same of the records of the tables
pub record RecordsFine {C : Type 0} (t5 : Fifth C) (Ask : ℕ → Bool → C → Type 0) (e : ℕ) (b : List ℕ) : Type 0 where
  pub trigger : (i : ℕ) → i < count b 2 → TriggerFine e b (field e b 2 i 0) (field e b 2 i 1)
  pub some : (i : ℕ) → i < count b 2 → 1 ≤ field e b 2 i 3
  pub few : (i : ℕ) → i < count b 2 → field e b 2 i 3 ≤ 64
  pub few_names : (a : ℕ) → a < count b 3 → field e b 3 a 1 ≤ 4
  pub few_asks : (a : ℕ) → a < count b 3 → field e b 3 a 3 ≤ fifth_most e
  pub names : (i : ℕ) → i < count b 4 → NameSound e b i
  pub asks : (i : ℕ) → i < count b 5 → Ask (names_at e b i) (trigger_at e b i) (t5.read b (offset b 5 + i * t5.width))

-- ---- a sheet

-- "left token, right token (0 the trigger, as above), and a set, 1..8,191"
pub record ConstraintFine (n : ℕ) (trigger : Bool) (q : Constraint) : Type 0 where
  pub left : TokenSound n trigger q.left
  pub right : TokenSound n trigger q.right
  pub some : 1 ≤ q.set
  pub set : q.set ≤ 8191
