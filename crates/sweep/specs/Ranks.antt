-- The endpoints of a plan's lines and their ranks. Assumes nothing.
use Rattle.std.specs.Prelude.{Bool, ◌||◌, cond, List, ℕ, zero, suc, ◌+◌, eqb}
use Rattle.words.specs.Lists.{any}
use Rattle.lines.specs.declared.Token.{Token}

-- a token starts or ends at time t
unfoldable pub touches : ℕ → Token → Bool
touches t k = eqb k.start.tick t || eqb k.end.tick t

-- "all endpoints": on one of the lines a token starts or ends at time t
unfoldable pub endpoint : List (List Token) → ℕ → Bool
endpoint lines t = any (any (touches t)) lines

-- the rank of a time among all starts and ends of all lines together: how many times below it are endpoints. Equal times have equal ranks
unfoldable pub rank : List (List Token) → ℕ → ℕ
rank lines zero = 0
rank lines (suc t) = rank lines t + cond (endpoint lines t) 1 0
