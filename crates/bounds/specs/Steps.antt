-- What the functions on the way show of each other: a table raised through a time, and times found one after another. No caller of the crate
-- sees these. Assumes nothing.
use Rattle.std.specs.Prelude.{◌≡◌, Bool, true, false, ◌⊎◌, List, ℕ, ◌+◌, ◌*◌, ◌≤◌, ◌<◌, length, get_or}
use Rattle.bounds.specs.Bounds.{origin, entry, Holds, Meets, Solves, Near, reach, Within, Floored}

-- ---- a table raised

-- more than any bound and any time on the way: twice the origin, and six times
abbrev pub wide : ℕ
wide = 35184372088832

abbrev pub late : ℕ
late = 105553116266496

-- r is the bound e raised to what the bounds a and b imply together
pub record Join (e a b r : ℕ) : Type 0 where
  pub grown : e ≤ r
  pub over : 0 < a → 0 < b → a + b ≤ r + origin
  pub from : (r ≡ e) ⊎ ((0 < a) × (0 < b) × (r + origin ≡ a + b))

-- the bound from i to j is at least what the bounds from i to k and from k to j imply
abbrev pub Joined : ℕ → ℕ → ℕ → List ℕ → Type 0
Joined k i j w = 0 < entry w i k → 0 < entry w k j → entry w i k + entry w k j ≤ entry w i j + origin

-- v is w with bounds raised between times below k: none fell, each is implied by w, and the others are as they were
pub record Raised (k : ℕ) (w v : List ℕ) : Type 0 where
  pub grown : (p : ℕ) → get_or w p 0 ≤ get_or v p 0
  pub implied : (x : ℕ → ℕ) → Meets w x → Meets v x
  pub kept : (i j : ℕ) → j < 12 → (k ≤ i) ⊎ (k ≤ j) → entry v i j ≡ entry w i j

-- the bounds from and to time k are near enough that any two of them together are within the next reach, and so are all
pub record Ready (k : ℕ) (w : List ℕ) : Type 0 where
  pub size : length w ≡ 144
  pub least : 1 ≤ k
  pub most : k < 12
  pub column : (i : ℕ) → Near (reach (k + 1)) (entry w i k)
  pub row : (j : ℕ) → j < 12 → Near (reach (k + 1)) (entry w k j)
  pub all : Within (reach k) w

-- one bound raised
pub record RaisedOne (k i j : ℕ) (w v : List ℕ) : Type 0 where
  pub raised : Raised k w v
  pub ready : Ready k v
  pub joined : Joined k i j v

-- the first n bounds of row i raised
pub record RaisedRow (k i n : ℕ) (w v : List ℕ) : Type 0 where
  pub raised : Raised k w v
  pub ready : Ready k v
  pub joined : (j : ℕ) → j < n → Joined k i j v

-- the bounds of the first n rows raised
pub record RaisedRows (k n : ℕ) (w v : List ℕ) : Type 0 where
  pub raised : Raised k w v
  pub ready : Ready k v
  pub joined : (i j : ℕ) → i < n → j < k → Joined k i j v

-- ---- a closed table, and its times

-- how far from 0 the bounds of a closed table may be: 2 to the 42
abbrev pub far : ℕ
far = 4398046511104

-- v is the table w, raised through every time
pub record Closed (w v : List ℕ) : Type 0 where
  pub raised : Raised 12 w v
  pub joined : (k i j : ℕ) → 1 ≤ k → k < 12 → i < k → j < k → Joined k i j v
  pub near : Within far v

-- some time would have to be later than itself
pub record Bent (w : List ℕ) : Type 0 where
  pub at : ℕ
  pub below : at < 12
  pub over : origin < entry w at at

-- whether no time would
pub record Tested (w : List ℕ) (r : Bool) : Type 0 where
  pub flat : r ≡ true → (k : ℕ) → k < 12 → entry w k k ≤ origin
  pub bent : r ≡ false → Bent w

-- what a table must be for its times to be put: closed, and no time would have to be later than itself
pub record Fit (w : List ℕ) : Type 0 where
  pub joined : (k i j : ℕ) → 1 ≤ k → k < 12 → i < k → j < k → Joined k i j w
  pub near : Within far w
  pub floored : Floored w
  pub flat : (k : ℕ) → k < 12 → entry w k k ≤ origin

-- r is the time b, or the later one that the bound e from the time a asks for
pub record Later (b a e r : ℕ) : Type 0 where
  pub grown : b ≤ r
  pub over : Holds e a r
  pub from : (r ≡ b) ⊎ ((0 < e) × (a + e ≡ r + origin))

-- r is the least that the bounds from the first n times to time k allow
pub record Reached (w : List ℕ) (k n : ℕ) (x : ℕ → ℕ) (r : ℕ) : Type 0 where
  pub over : (i : ℕ) → i < n → Holds (entry w i k) (x i) r
  pub from : ℕ
  pub below : from < n
  pub there : 0 < entry w from k
  pub met : x from + entry w from k ≡ r + origin

-- the first n times are right
pub record First (w : List ℕ) (n : ℕ) (x : ℕ → ℕ) : Type 0 where
  pub starts : x 0 ≡ 0
  pub meets : (i j : ℕ) → i < n → j < n → Holds (entry w i j) (x i) (x j)
  pub least : (y : ℕ → ℕ) → Solves w y → (i : ℕ) → i < n → x i ≤ y i
  pub small : (i : ℕ) → i < n → x i ≤ i * far
