-- Words written in a row: `puts` writes them, `Wrote` says that a function did, `Has` that there is room. Assumes nothing.
use Rattle.std.specs.Prelude.{◌≡◌, ℕ, ◌+◌, ◌≤◌, List, [], ◌∷◌, length, set}

-- l with the words ws from place `at` on
abbrev pub puts : List ℕ → ℕ → List ℕ → List ℕ
puts l at [] = l
puts l at (w ∷ ws) = puts (set l at w) (at + 1) ws

-- `after` is `before` with ws from `at` on, and r is the place behind them
pub record Wrote (before after : List ℕ) (at r : ℕ) (ws : List ℕ) : Type 0 where
  pub same : after ≡ puts before at ws
  pub next : r ≡ at + length ws

-- the words ws fit from `at` on
pub record Has (l : List ℕ) (at : ℕ) (ws : List ℕ) : Type 0 where
  pub fits : at + length ws ≤ length l
