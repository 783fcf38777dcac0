-- The search among the listed times: it finds a time's rank. Assumes nothing.
use mathlib.Core.Path.{◌≡◌}
use mathlib.Core.Bool.{true}
use mathlib.Core.Logic.{⊎_elim}
use mathlib.Core.List.{List}
use Prim.Native.Nat.{ℕ, suc, ◌+◌, ◌-◌, ◌≤◌, ◌<◌}
use native.Mathlib.Nat.{eq-or-lt_of_le}
use native.Mathlib.Omega.{arith}
use Rattle.words.specs.Words.{word}
use Rattle.lines.specs.declared.Token.{Token}
use Rattle.lines.specs.Lines.{lines_of}
use Rattle.sweep.specs.Ranks.{endpoint, rank}
use Rattle.sweep.specs.Sweeps.{Moments}
use Rattle.sweep.proofs.Ranks.{rank_rises, rank_higher}
use Rattle.order.specs.Numbered.{FirstFrom}

-- ranks rise with time
pub rank_le : (lines : List (List Token)) (s t : ℕ) → s ≤ t → rank lines s ≤ rank lines t
rank_le lines s t l = let e : s + (t - s) ≡ t = omega arith in rw e at (rank_rises lines s (t - s))

pub rank_lt : (lines : List (List Token)) (s t : ℕ) → s < t → endpoint lines s ≡ true → rank lines s < rank lines t
rank_lt lines s t l h = let e : suc s + (t - suc s) ≡ t = omega arith in rw e at (rank_higher lines s (t - suc s) h)

-- THE LAW: from a number that isn't past it, the search ends at the time's rank
pub rank-found : (p ts : List ℕ) (last k t r : ℕ) → Moments p ts last → t ≤ word ts last → k ≤ rank (lines_of p) t → FirstFrom ts last k t r
    → r ≡ rank (lines_of p) t
rank-found p ts last k t r m end low f =
    let below : rank (lines_of p) t ≤ r = ⊎_elim
    (λ (q : r ≡ last). rw q (omega (arith, rank_le (lines_of p) t (word ts last) end, m.ranks last (omega arith))))
    (λ q. omega (arith, rank_le (lines_of p) t (word ts r) (f.here q), m.ranks r f.within))
    (eq-or-lt_of_le f.within) in
    let above : r ≤ rank (lines_of p) t = ⊎_elim
    (λ q. omega arith)
    (λ q.
    let j : ℕ = r - 1 in
    let b : word ts j < t = f.before j (omega arith) (omega arith) in
    omega (arith, rank_lt (lines_of p) (word ts j) t b (m.ends j (omega (arith, f.within))), m.ranks j (omega (arith, f.within))))
    (eq-or-lt_of_le f.from) in
    omega arith
