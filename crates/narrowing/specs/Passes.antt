-- What the functions inside say to each other: one word cut, and a pass so far. Assumes nothing.
use Rattle.std.specs.Prelude.{◌≡◌, Bool, true, false, List, ℕ, ◌+◌, ◌*◌, ◌≤◌, ◌<◌, eqb, get_or, set}
use Rattle.words.specs.Words.{word}
use Rattle.narrowing.specs.declared.Alternative.{Alternative}
use Rattle.narrowing.specs.Narrowed.{Cut, sum, step_word, across}

-- one word stored, and whether it is the old one
pub record CutOnce (start after : List ℕ) (at word : ℕ) (kept : Bool) : Type 0 where
  pub told : kept ≡ eqb (get_or start at 0) word
  pub put : after ≡ set start at word

-- the first k steps of a pass, and whether none of them changed anything
pub record Passed (n k : ℕ) (start after : List ℕ) (same : Bool) : Type 0 where
  pub cut : Cut n start after
  pub kept : same ≡ true → after ≡ start
  pub still : same ≡ true → (t : ℕ) → t < k → step_word n t start ≡ get_or start (across n t) 0
  pub less : same ≡ false → sum after < sum start

-- x is the number of one of the n tokens, of which the first has the number f
pub record Seated (n f x : ℕ) : Type 0 where
  pub from : f ≤ x
  pub until : x < f + n

-- the two tokens of each of an alternative's constraints
abbrev pub AllSeated : List ℕ → Alternative → Type 0
AllSeated s p =
    (i : ℕ) → i < p.constraints
    → Seated p.tokens p.first (word s (p.place + i * 3)) × Seated p.tokens p.first (word s (p.place + i * 3 + 1))
