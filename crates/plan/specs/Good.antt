-- What a good plan is, in plain numbers: its length, its header, its tokens. Assumes nothing.
use Rattle.std.specs.Prelude.{◌≡◌, true, ◌⊎◌, List, ℕ, ◌+◌, ◌-◌, ◌*◌, ◌≤◌, ◌<◌, length}
use Rattle.words.specs.Words.{word, in_set}
use Rattle.clock.specs.Clock.{last_tick, no_limit}
use Rattle.layout.specs.Layout.{count, values_of}
use Rattle.lines.specs.Lines.{line_count, token_width, value_of, duration_of, start_of, line_of}
use Rattle.lines.specs.Ends.{line_end, plan_end}
use Rattle.lines.specs.Fault.{sum_before}
pub use Rattle.lines.specs.Good.{HeadGood}
use Rattle.plan.specs.Fault.{value_place}

-- token j of line v: its value is known, its duration is within the value's bounds, it may follow the token before, and it ends in time
pub record TokenGood (b p : List ℕ) (v j : ℕ) : Type 0 where
  pub known : value_of p v j < values_of 1 b v
  pub at_least : word b (value_place b v (value_of p v j)) ≤ duration_of p v j
  pub at_most : (duration_of p v j ≤ word b (value_place b v (value_of p v j) + 1)) ⊎ (word b (value_place b v (value_of p v j) + 1) ≡ no_limit)
  pub follows : (j ≡ 0 → ⊥) → in_set (word b (value_place b v (value_of p v (j - 1)) + 2)) (value_of p v j) ≡ true
  pub soon : start_of p v j + duration_of p v j ≤ last_tick

-- the whole plan: its length, its header, that its tokens end at the length, and each token of each line
pub record PlanGood (b p : List ℕ) : Type 0 where
  pub long : 3 + 2 * count b 0 ≤ length p
  pub short : length p ≤ 16384
  pub head : HeadGood b p
  pub whole : 3 + 2 * count b 0 + token_width p * sum_before p (count b 0) ≡ length p
  pub tokens : (v : ℕ) → v < count b 0 → (j : ℕ) → j < line_count p v → TokenGood b p v j
  pub together : (v : ℕ) → v < count b 0 → line_end (line_of p v) ≡ plan_end (line_of p)
