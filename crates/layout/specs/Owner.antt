-- What the code goes by: tables and records that lie in the book, and a cursor over a table's ranges that only moves forward, from which
-- an owner is looked for. Assumes nothing.
use Rattle.std.specs.Prelude.{◌≡◌, List, ℕ, ◌+◌, ◌≤◌, ◌<◌, length}
use Rattle.words.specs.Least.{Clear}
use Rattle.layout.specs.Layout.{width, count, ending, record_at, reaches}

-- every table ends in the book
abbrev pub Within : ℕ → List ℕ → Type 0
Within e b = (t : ℕ) → t < 6 → ending e b t ≤ length b

-- `at` is the place of record i of table t, and the record ends in the book
pub record Place (e : ℕ) (b : List ℕ) (t i at : ℕ) : Type 0 where
  pub here : at ≡ record_at e b t i
  pub inside : at + width e t ≤ length b

-- the record v is in table t, or its count, and number i is in no range before it
pub record Cursor (e : ℕ) (b : List ℕ) (t j i v : ℕ) : Type 0 where
  pub within : v ≤ count b t
  pub passed : Clear (reaches e b t j i) v
