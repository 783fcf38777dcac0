-- The time's two marks, a duration later, and a difference against bounds. Each takes its mark as an argument, so that its laws hold
-- for any width and any mark. Assumes nothing.
use Rattle.std.specs.Prelude.{Option, Some, None, ℕ, ◌+◌, Bool, ◌&&◌, ◌||◌, cond, leb, eqb}
use Rattle.clock.specs.declared.Time.{Time}

-- "the last tick 1,000,000,000"
abbrev pub last_tick : ℕ
last_tick = 1000000000

-- "N means 4,294,967,295", "the mark N for no limit"
abbrev pub no_limit : ℕ
no_limit = 4294967295

-- the time at a tick
abbrev pub at : ℕ → Time
at t = record { tick = t }

-- d after t, or none past the last tick
unfoldable pub later : ℕ → ℕ → ℕ → Option Time
later last t d = cond (leb (t + d) last) (Some (at (t + d))) None

-- "right minus left, as whole numbers, is at least lower and (unless N) at most upper"
unfoldable pub in_bounds : ℕ → ℕ → ℕ → ℕ → ℕ → Bool
in_bounds none left right lower upper = leb (left + lower) right && (eqb upper none || leb right (left + upper))
