-- Lower bounds between twelve times, as a table of 144 numbers; what it is to meet them; the earliest times that do. Assumes nothing.
use Rattle.std.specs.Prelude.{◌≡◌, Bool, true, false, List, ℕ, ◌+◌, ◌*◌, ◌-◌, ◌^◌, ◌≤◌, ◌<◌, get_or}

-- the number that stands for a bound of 0, so that bounds below 0 can be written too: 2 to the 44
abbrev pub origin : ℕ
origin = 17592186044416

-- the bound between the times i and j: 0 if there is none, else by how much time j is at least after time i, plus the origin
abbrev pub entry : List ℕ → ℕ → ℕ → ℕ
entry w i j = get_or w (i * 12 + j) 0

-- the bound e holds from time a to time b
abbrev pub Holds : ℕ → ℕ → ℕ → Type 0
Holds e a b = 0 < e → a + e ≤ b + origin

-- the times x meet every bound of the table
abbrev pub Meets : List ℕ → (ℕ → ℕ) → Type 0
Meets w x = (i j : ℕ) → i < 12 → j < 12 → Holds (entry w i j) (x i) (x j)

-- they meet every bound, and time 0 is 0
pub record Solves (w : List ℕ) (x : ℕ → ℕ) : Type 0 where
  pub starts : x 0 ≡ 0
  pub meets : Meets w x

-- the times of a list
abbrev pub times : List ℕ → ℕ → ℕ
times l i = get_or l i 0

-- what is answered: "yes" with times that meet the bounds and none of which is later than in any other choice, or "no", and there is no choice,
-- and the lent times are as they were
pub record Earliest (w : List ℕ) (r : Bool) (before l : List ℕ) : Type 0 where
  pub meets : r ≡ true → Solves w (times l)
  pub earliest : r ≡ true → (y : ℕ → ℕ) → Solves w y → (i : ℕ) → i < 12 → times l i ≤ y i
  pub none : r ≡ false → (y : ℕ → ℕ) → Solves w y → ⊥
  pub untouched : r ≡ false → l ≡ before

-- ---- how large the numbers of the table may be

-- the bound e, if there is one, is at most b from 0
pub record Near (b e : ℕ) : Type 0 where
  pub high : e ≤ origin + b
  pub low : 0 < e → origin ≤ e + b

-- how far from 0 the bounds may be once the times from k on are passed: 2 to the 31 at first, and twice as far with each
unfoldable pub reach : ℕ → ℕ
reach k = 2 ^ (43 - k)

-- every bound is at most b from 0
abbrev pub Within : ℕ → List ℕ → Type 0
Within b w = (p : ℕ) → Near b (get_or w p 0)

-- every time is at least 0
abbrev pub Floored : List ℕ → Type 0
Floored w = (j : ℕ) → j < 12 → origin ≤ entry w 0 j
