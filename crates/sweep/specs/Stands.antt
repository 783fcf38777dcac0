-- The sweep's state: where each line stands, when the next token ends, and where the lines stand then. Assumes nothing.
use Rattle.std.specs.Prelude.{◌≡◌, ◌||◌, cond, List, ℕ, zero, suc, ◌+◌, ◌-◌, ◌<◌, ltb, leb, eqb, get_or}
use Rattle.words.specs.Words.{word}
use Rattle.lines.specs.Lines.{line_count, token_width, line_place}
use Rattle.sweep.specs.declared.Stand.{Stand}

-- where the running token of a line stands, how many tokens are left with it, and how many ticks it has still to run
abbrev pub stand : ℕ → ℕ → ℕ → Stand
stand place left run = record { place = place; left = left; run = run }

-- a line before anything has run
abbrev pub first_stand : List ℕ → ℕ → Stand
first_stand p v = stand (line_place p v) (line_count p v) (word p (line_place p v + 1))

-- the line's next token runs
abbrev pub next_of : List ℕ → Stand → Stand
next_of p s = stand (s.place + token_width p) (s.left - 1) (word p (s.place + token_width p + 1))

-- its token runs on, m ticks less
abbrev pub runs_on : ℕ → Stand → Stand
runs_on m s = stand s.place s.left (s.run - m)

-- a line m ticks later: nothing is left of it, its running token has ended and the next one runs, or it runs on
unfoldable pub later : List ℕ → ℕ → Stand → Stand
later p m s = cond (eqb s.left 0) s (cond (leb s.run m) (next_of p s) (runs_on m s))

-- the fewer ticks to run, of r and a line's; 0 stands for a line of which nothing is left
unfoldable pub sooner : ℕ → Stand → ℕ
sooner r s = cond (eqb s.left 0) r (cond (eqb r 0 || ltb s.run r) s.run r)

-- line v
abbrev pub line_at : List Stand → ℕ → Stand
line_at ls v = get_or ls v (stand 0 0 0)

-- the ticks to the next end on one of the first n lines, or 0 where nothing is left of any
unfoldable pub soonest : List Stand → ℕ → ℕ
soonest ls zero = 0
soonest ls (suc v) = sooner (soonest ls v) (line_at ls v)

-- each of the first n lines has begun
abbrev pub Begun : List ℕ → ℕ → List Stand → Type 0
Begun p n ls = (v : ℕ) → v < n → line_at ls v ≡ first_stand p v

-- each of the first n lines is m ticks later
abbrev pub Later : List ℕ → ℕ → ℕ → List Stand → List Stand → Type 0
Later p n m ls ls' = (v : ℕ) → v < n → line_at ls' v ≡ later p m (line_at ls v)
