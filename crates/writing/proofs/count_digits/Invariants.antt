-- The invariant of `writing::count_digits`: n and what the digits that are left become are the whole, and n is at most three for each digit
-- passed. Assumes nothing.
use mathlib.Core.Path.{◌≡◌}
use Prim.Native.Nat.{◌+◌, ◌*◌, ◌-◌, ◌≤◌}
use Rattle.writing.specs.Left.{count_from}
use Rattle.writing.proofs.count_digits.Given as goal

abbrev pub invariant-loop : goal.invariant-loop
invariant-loop l = (l.n ≤ 3 * l.counter) × (l.n + count_from (l.k - l.counter) l.left ≡ count_from l.k l.code)
